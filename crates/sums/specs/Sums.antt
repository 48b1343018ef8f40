-- Rules: document 01, "The running sums are a struct by value with five arrays of three f64 and a count".
-- A value of a picture is widened first; the logic's floats are numbers, so that a widened value is the value itself.
use Rattle.std.specs.Prelude.{◌≡◌, List, [], ◌∷◌, ℕ, ◌+◌, ◌-◌, get_or, Float}
use Rattle.std.specs.Float.{nan}
use Rattle.laws.specs.F64.{◌⊕◌, ◌⊖◌, ◌⊗◌}
use Rattle.float.specs.Within.{nought}
use Rattle.sums.specs.declared.ShapeSums.{ShapeSums}

-- an array of three, and its number for a channel
abbrev pub three : Float → Float → Float → List Float
three x y z = x ∷ y ∷ z ∷ []

abbrev pub channel : List Float → ℕ → Float
channel xs ch = get_or xs ch nan

-- channel by channel
abbrev pub each3_of : (Float → Float → Float) → List Float → List Float → List Float
each3_of g a b = three (g (channel a 0) (channel b 0)) (g (channel a 1) (channel b 1)) (g (channel a 2) (channel b 2))

abbrev pub sum3 : List Float → List Float → List Float
sum3 a b = three (channel a 0 ⊕ channel b 0) (channel a 1 ⊕ channel b 1) (channel a 2 ⊕ channel b 2)

abbrev pub difference3 : List Float → List Float → List Float
difference3 a b = three (channel a 0 ⊖ channel b 0) (channel a 1 ⊖ channel b 1) (channel a 2 ⊖ channel b 2)

abbrev pub product3 : List Float → List Float → List Float
product3 a b = three (channel a 0 ⊗ channel b 0) (channel a 1 ⊗ channel b 1) (channel a 2 ⊗ channel b 2)

-- the sums over no pixel
unfoldable pub no_sums : ShapeSums
no_sums = record {
  s_t = three nought nought nought;
  s_c = three nought nought nought;
  s_t2 = three nought nought nought;
  s_c2 = three nought nought nought;
  s_tc = three nought nought nought;
  count = 0;
}

-- those of one pixel, target t0 t1 t2 and canvas c0 c1 c2
unfoldable pub pixel_sums : Float → Float → Float → Float → Float → Float → ShapeSums
pixel_sums t0 t1 t2 c0 c1 c2 = record {
  s_t = three t0 t1 t2;
  s_c = three c0 c1 c2;
  s_t2 = three (t0 ⊗ t0) (t1 ⊗ t1) (t2 ⊗ t2);
  s_c2 = three (c0 ⊗ c0) (c1 ⊗ c1) (c2 ⊗ c2);
  s_tc = three (t0 ⊗ c0) (t1 ⊗ c1) (t2 ⊗ c2);
  count = 1;
}

-- sum and difference, number by number
unfoldable pub plus : ShapeSums → ShapeSums → ShapeSums
plus a b = record {
  s_t = sum3 a.s_t b.s_t;
  s_c = sum3 a.s_c b.s_c;
  s_t2 = sum3 a.s_t2 b.s_t2;
  s_c2 = sum3 a.s_c2 b.s_c2;
  s_tc = sum3 a.s_tc b.s_tc;
  count = a.count + b.count;
}

unfoldable pub minus : ShapeSums → ShapeSums → ShapeSums
minus a b = record {
  s_t = difference3 a.s_t b.s_t;
  s_c = difference3 a.s_c b.s_c;
  s_t2 = difference3 a.s_t2 b.s_t2;
  s_c2 = difference3 a.s_c2 b.s_c2;
  s_tc = difference3 a.s_tc b.s_tc;
  count = a.count - b.count;
}

-- number by number, for the contracts of the code's steps
abbrev pub each_of : (Float → Float → Float) → ShapeSums → ShapeSums → ℕ → ShapeSums
each_of g a b n = record {
  s_t = each3_of g a.s_t b.s_t;
  s_c = each3_of g a.s_c b.s_c;
  s_t2 = each3_of g a.s_t2 b.s_t2;
  s_c2 = each3_of g a.s_c2 b.s_c2;
  s_tc = each3_of g a.s_tc b.s_tc;
  count = n;
}

-- what the functions promise
abbrev pub NewSays : ShapeSums → Type 0
NewSays r = r ≡ no_sums

abbrev pub PlusSays : ShapeSums → ShapeSums → ShapeSums → Type 0
PlusSays a b r = r ≡ plus a b

abbrev pub MinusSays : ShapeSums → ShapeSums → ShapeSums → Type 0
MinusSays a b r = r ≡ minus a b

abbrev pub PushSays : ShapeSums → Float → Float → Float → Float → Float → Float → ShapeSums → Type 0
PushSays s t0 t1 t2 c0 c1 c2 r = r ≡ plus s (pixel_sums t0 t1 t2 c0 c1 c2)

abbrev pub PushWideSays : ShapeSums → Float → Float → Float → Float → Float → Float → ShapeSums → Type 0
PushWideSays s t0 t1 t2 c0 c1 c2 r = r ≡ plus s (pixel_sums t0 t1 t2 c0 c1 c2)
