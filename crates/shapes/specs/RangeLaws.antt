-- Laws: each promise has one answer; ranges of lists put together; candidates one after another, and the candidate of a trial.
use Rattle.std.specs.Prelude.{◌≡◌, refl, Bool, true, false, ◌&&◌, List, [], ◌∷◌, ◌++◌, map, ℕ, zero, suc, ◌+◌, ◌<◌, ◌≤◌, min, T, length, take, get_or, Option, None, Some}
use Rattle.std.proofs.Common.{sym, ap, subst, ◌∙◌, add-one, arith, ⊎_elim, length-take, take-suc, take_all, get_or-take}
use Rattle.std.proofs.lemmas.Option.{same_Some}
use Rattle.std.specs.Float.Ieee.Fits.{and_i, and_l, and_r}
use Rattle.std.proofs.lemmas.List.{length-map}
use Rattle.std.proofs.Math.ListN.{get_or-map, get_or-eq_default}
use Rattle.laws.specs.StrokeLaws.{le-or-lt}
use Rattle.laws.specs.Every.{every}
use Rattle.laws.specs.EveryLaws.{every_append}
use Rattle.shapes.specs.declared.Shape.{Shape}
use Rattle.shapes.specs.declared.Shapes.{Shapes}
use Rattle.shapes.specs.declared.Ranges.{Ranges}
use Rattle.shapes.specs.declared.Candidates.{Candidates}
use Rattle.shapes.specs.Lists.{listed, offered, ExchangeSays}
use Rattle.shapes.specs.Ranges.{places_fit, opacity_fits, colour_fits, fits, ranges_of, both, shapes_in, LookAtSays, LookThroughSays}

-- lists are compared below their count
pub ExchangeSays-unique : (s : Shapes) (j : ℕ) (x : Shape) (r q : Shapes) → ExchangeSays s j x r → ExchangeSays s j x q → (r.count ≡ q.count) × (listed r ≡ listed q)
ExchangeSays-unique s j x r q p p' = (p.0 ∙ sym p'.0, p.2 ∙ sym p'.2)

pub LookAtSays-unique : (r : Ranges) (what : Option Shape) (q s : Ranges) → LookAtSays r what q → LookAtSays r what s → q ≡ s
LookAtSays-unique r what q s e f = e ∙ sym f

pub LookThroughSays-unique : (s : Shapes) (q r : Ranges) → LookThroughSays s q → LookThroughSays s r → q ≡ r
LookThroughSays-unique s q r e f = e ∙ sym f

-- ---- lists put together
and_true : (a : Bool) → a && true ≡ a
and_true true = refl
and_true false = refl

pub both-none : (r : Ranges) → r ≡ both r (ranges_of [])
unfolding every
both-none r = λ i. record { places = sym (and_true r.places) i; opacities = sym (and_true r.opacities) i; colours = sym (and_true r.colours) i }

pub both-append : (a b : List Shape) → both (ranges_of a) (ranges_of b) ≡ ranges_of (a ++ b)
both-append a b = λ i. record { places = sym (every_append places_fit a b) i; opacities = sym (every_append opacity_fits a b) i; colours = sym (every_append colour_fits a b) i }

-- one shape
pub ranges_one : (s : Shape) → ranges_of (s ∷ []) ≡ record { places = places_fit s; opacities = opacity_fits s; colours = colour_fits s }
unfolding every
ranges_one s = λ i. record { places = and_true (places_fit s) i; opacities = and_true (opacity_fits s) i; colours = and_true (colour_fits s) i }

pub ranges_none : record { places = true; opacities = true; colours = true } ≡ ranges_of []
unfolding every
ranges_none = refl

-- all of a list
pub every-fits : (l : List Shape) → T (ranges_of l).places → T (ranges_of l).opacities → T (ranges_of l).colours → T (every fits l)
unfolding every fits
every-fits [] p o c = tt
every-fits (s ∷ l) p o c =
    and_i (fits s) (every fits l)
    (and_i (places_fit s && opacity_fits s) (colour_fits s) (and_i (places_fit s) (opacity_fits s) (and_l (places_fit s) (every places_fit l) p) (and_l (opacity_fits s) (every opacity_fits l) o)) (and_l (colour_fits s) (every colour_fits l) c))
    (every-fits l (and_r (places_fit s) (every places_fit l) p) (and_r (opacity_fits s) (every opacity_fits l) o) (and_r (colour_fits s) (every colour_fits l) c))

-- what is told of one that fits
module _ (s : Shape) (h : T (fits s)) where
  pub fits-places : T (places_fit s)
  unfolding fits
  fits-places = and_l (places_fit s) (opacity_fits s) (and_l (places_fit s && opacity_fits s) (colour_fits s) h)

  pub fits-opacity : T (opacity_fits s)
  unfolding fits
  fits-opacity = and_r (places_fit s) (opacity_fits s) (and_l (places_fit s && opacity_fits s) (colour_fits s) h)

  pub fits_colour : T (colour_fits s)
  unfolding fits
  fits_colour = and_r (places_fit s && opacity_fits s) (colour_fits s) h

-- a loop over the items
pub items_more : (l : List Shape) (i : ℕ) (d : Shape) (r q : Ranges) → i < length l → r ≡ ranges_of (take i l) → q ≡ both r (ranges_of (get_or l i d ∷ [])) → q ≡ ranges_of (take (i + 1) l)
items_more l i d r q h e f =
    f
    ∙ ap (λ (x : Ranges). both x (ranges_of (get_or l i d ∷ []))) e
    ∙ both-append (take i l) (get_or l i d ∷ [])
    ∙ ap ranges_of (sym (take-suc l i d h) ∙ ap (λ (k : ℕ). take k l) (sym (add-one i)))

-- ---- candidates
shapes-last : (l : List (Option Shape)) (o : Option Shape) → shapes_in (l ++ (o ∷ [])) ≡ shapes_in l ++ shapes_in (o ∷ [])
shapes-last [] o = refl
shapes-last (None ∷ l) o = shapes-last l o
shapes-last (Some s ∷ l) o = ap (λ (r : List Shape). s ∷ r) (shapes-last l o)

-- one slot more
pub shapes-more : (slots : List (Option Shape)) (k : ℕ) (d : Option Shape) → k < length slots
    → shapes_in (take (k + 1) slots) ≡ shapes_in (take k slots) ++ shapes_in (get_or slots k d ∷ [])
shapes-more slots k d h =
    ap shapes_in (ap (λ (n : ℕ). take n slots) (add-one k) ∙ take-suc slots k d h)
    ∙ shapes-last (take k slots) (get_or slots k d)

other_default : {A : Type 0} (l : List A) (k : ℕ) (a b : A) → k < length l → get_or l k a ≡ get_or l k b
other_default [] k a b h = absurd (omega arith)
other_default (x ∷ l) zero a b h = refl
other_default (x ∷ l) (suc k) a b h = other_default l k a b (omega arith)

-- the candidate of a trial
module _ (candidates : Candidates) (k : ℕ) where
  offers_long : length (offered candidates) ≡ min candidates.count (length candidates.slots)
  offers_long = length-take candidates.count candidates.slots

  pub offered-at : (d : Option Shape) → k < candidates.count → candidates.count ≤ length candidates.slots → get_or (offered candidates) k None ≡ get_or candidates.slots k d
  offered-at d h l =
      other_default (offered candidates) k None d (omega (arith, offers_long))
      ∙ get_or-take candidates.count candidates.slots k d h

  pub offered_past : candidates.count ≤ k → get_or (offered candidates) k None ≡ None
  offered_past h = get_or-eq_default (offered candidates) None (omega (arith, offers_long))

pub fits-offered : (l : List (Option Shape)) (k : ℕ) (x : Shape) → T (every fits (shapes_in l)) → get_or l k None ≡ Some x → T (fits x)
unfolding every
fits-offered [] k x h e = let z : ◌≡◌ {A = ℕ} 0 1 = cc in absurd (omega arith)
fits-offered (None ∷ l) zero x h e = let z : ◌≡◌ {A = ℕ} 0 1 = cc in absurd (omega arith)
fits-offered (None ∷ l) (suc k) x h e = fits-offered l k x h e
fits-offered (Some s ∷ l) zero x h e = subst (λ (y : Shape). T (fits y)) (same_Some s x e) (and_l (fits s) (every fits (shapes_in l)) h)
fits-offered (Some s ∷ l) (suc k) x h e = fits-offered l k x (and_r (fits s) (every fits (shapes_in l)) h) e
