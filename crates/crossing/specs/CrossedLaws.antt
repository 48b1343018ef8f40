-- Laws: a list crosses in one way; lists one shape longer.
use Rattle.std.specs.Prelude.{◌≡◌, Bool, true, false, ◌||◌, List, [], ◌∷◌, ◌++◌, map, ℕ, zero, suc, ◌+◌, ◌-◌, ◌*◌, ◌<◌, ◌≤◌, ℤ, pos, Float, length, take, drop, set, get_or, Option}
use Rattle.std.proofs.Math.Path.{refl, sym}
use Rattle.std.proofs.Common.{ap, ◌∙◌, add-one, arith, length-take, length-drop, length-set, get_or-take, length-take-le}
use Rattle.laws.specs.Fit.{no_both}
use Rattle.laws.specs.Tab.{tab}
use Rattle.laws.specs.TabLaws.{length-tab, get_d_tab}
use Rattle.laws.specs.Fill.{agree-more, agree-all}
use Rattle.cover.specs.declared.Kind.TheVariants.{Circle, Triangle}
use Rattle.shapes.specs.Blank.{blank}
use Rattle.laws.specs.WithoutLaws.{pushed}
use Rattle.shapes.specs.declared.Shape.{Shape}
use Rattle.shapes.specs.declared.Shapes.{Shapes}
use Rattle.shapes.specs.declared.Candidates.{Candidates}
use Rattle.shapes.specs.Lists.{listed, offered}
use Rattle.crossing.specs.Crossed.{place_in, entry, BadListSays, ReadListSays, ReadOffersSays, WriteListSays}

module _ (sizes : List ℕ) (places : List ℤ) (paints : List Float) where
  pub BadListSays-unique : (gaps r s : Bool) → BadListSays sizes places paints gaps r → BadListSays sizes places paints gaps s → r ≡ s
  BadListSays-unique gaps r s p q = p ∙ sym q

  pub ReadListSays-unique : (r s : Shapes) → ReadListSays sizes places paints r → ReadListSays sizes places paints s → (r.count ≡ s.count) × (listed r ≡ listed s)
  ReadListSays-unique r s p q = (p.0 ∙ sym q.0, p.1 ∙ sym q.1)

  pub ReadOffersSays-unique : (r s : Candidates) → ReadOffersSays sizes places paints r → ReadOffersSays sizes places paints s → (r.count ≡ s.count) × (offered r ≡ offered s)
  ReadOffersSays-unique r s p q = (p.0 ∙ sym q.0, p.1 ∙ sym q.1)

pub WriteListSays-unique : (list : Shapes) (sizes sizes' : List ℕ) (zs zs' : List ℤ) (paints paints' : List Float) → WriteListSays list sizes zs paints → WriteListSays list sizes' zs' paints'
    → (sizes ≡ sizes') × (zs ≡ zs') × (paints ≡ paints')
WriteListSays-unique list sizes sizes' zs zs' paints paints' p q = (p.0 ∙ sym q.0, p.1 ∙ sym q.1, p.2 ∙ sym q.2)

-- ---- one element more
module _ {A : Type 0} (f : ℕ → A) where
  pub tab-none : tab f 0 ≡ []
  unfolding tab
  tab-none = refl

  pub tab-more : (n : ℕ) → tab f n ++ (f n ∷ []) ≡ tab f (n + 1)
  unfolding tab
  tab-more n = sym (ap (tab f) (add-one n))

pub items_next : {A : Type 0} (f : ℕ → A) (items : List A) (i : ℕ) (x : A) → i < length items → take i items ≡ tab f i → x ≡ f i → take (i + 1) (set items i x) ≡ tab f (i + 1)
items_next {A = A} f items i x h e g =
    pushed items i x h ∙ ap (λ (l : List A). l ++ (x ∷ [])) e ∙ ap (λ (y : A). tab f i ++ (y ∷ [])) g ∙ tab-more f i

-- ---- tests
pub or_yes : (a b : Bool) → a ≡ true → true ≡ (a || b)
or_yes true b e = refl
or_yes false b e = no_both e refl

pub or_of_two : (a b d : Bool) → (a || b) ≡ true → true ≡ (a || b || d)
or_of_two true b d e = refl
or_of_two false true d e = refl
or_of_two false false d e = no_both e refl

pub or-third : (a b d : Bool) → (a || b) ≡ false → d ≡ (a || b || d)
or-third true b d e = no_both refl e
or-third false true d e = no_both refl e
or-third false false d e = refl

-- ---- the eight places of shape i
pub eight_of : (i : ℕ) → i * 8 + 8 - i * 8 ≡ 8
eight_of i = omega arith

pub eight_long : (zs : List ℤ) (i n k : ℕ) → i < n → length zs ≡ n * 8 → k ≤ 8 → k ≤ length (take (i * 8 + 8 - i * 8) (drop (i * 8) zs))
eight_long zs i n k h e l = omega (arith, length-take (i * 8 + 8 - i * 8) (drop (i * 8) zs), length-drop (i * 8) zs)

-- ---- and back: coordinates past a kind's own are 0
abbrev noughts : ℕ → List ℤ
noughts zero = []
noughts (suc n) = pos 0 ∷ noughts n

pub padded : (l : List ℤ) (n j : ℕ) → get_or (l ++ noughts n) j (pos 0) ≡ get_or l j (pos 0)
padded [] zero j = refl
padded [] (suc n) zero = refl
padded [] (suc n) (suc j) = padded [] n j
padded (x ∷ l) n zero = refl
padded (x ∷ l) n (suc j) = padded l n j

pub circle_place : (x y r : ℤ) (j : ℕ) → get_or (x ∷ y ∷ r ∷ pos 0 ∷ pos 0 ∷ pos 0 ∷ pos 0 ∷ pos 0 ∷ []) j (pos 0) ≡ place_in (Circle x y r) j
circle_place x y r j = padded (x ∷ y ∷ r ∷ []) (suc (suc (suc (suc (suc zero))))) j

pub triangle_place : (x0 y0 x1 y1 x2 y2 : ℤ) (j : ℕ) → get_or (x0 ∷ y0 ∷ x1 ∷ y1 ∷ x2 ∷ y2 ∷ pos 0 ∷ pos 0 ∷ []) j (pos 0) ≡ place_in (Triangle x0 y0 x1 y1 x2 y2) j
triangle_place x0 y0 x1 y1 x2 y2 j = padded (x0 ∷ y0 ∷ x1 ∷ y1 ∷ x2 ∷ y2 ∷ []) (suc (suc zero)) j

-- a list that is written place by place, up to k
pub record Written {A : Type 0} (f : ℕ → A) (n : ℕ) (l : List A) (k : ℕ) : Type 0 where
  pub upto : k ≤ n
  pub long : length l ≡ n
  pub so_far : take k l ≡ take k (tab f n)

module _ {A : Type 0} (f : ℕ → A) {n : ℕ} {l : List A} where
  pub written_none : length l ≡ n → Written f n l 0
  written_none e = record { upto = omega arith; long = e; so_far = refl }

  pub written_more : {k : ℕ} (a : A) → Written f n l k → k < n → a ≡ f k → Written f n (set l k a) (k + 1)
  written_more {k} a s h g = record {
    upto = omega arith;
    long = length-set l k a ∙ s.long;
    so_far = agree-more l (tab f n) k a a (s.long ∙ sym (length-tab f n)) (omega (arith, s.long)) s.so_far (g ∙ sym (get_d_tab f n k a h));
  }

  pub written_all : {k m : ℕ} → Written f n l k → n ≤ k → m ≡ n → l ≡ tab f m
  written_all {k} s h e = agree-all l (tab f n) k (s.long ∙ sym (length-tab f n)) (omega (arith, length-tab f n)) s.so_far ∙ ap (tab f) (sym e)

-- shape i of the list is item i
pub item_of : (items : List Shape) (n i : ℕ) → i < n → get_or items i blank ≡ entry (take n items) i
item_of items n i h = sym (get_or-take n items i blank h)

pub listed_long : (items : List Shape) (n : ℕ) → length items ≡ 64 → n ≤ 64 → length (take n items) ≡ n
listed_long items n e h = length-take-le n items (omega (arith, e))
