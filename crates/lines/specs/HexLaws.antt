-- Laws: digits and the bytes that they spell; what a line spells is one list of bytes.
use Rattle.std.specs.Prelude.{◌≡◌, refl, ◌⊎◌, Option, Some, None, ℕ, zero, suc, ◌+◌, ◌-◌, ◌*◌, ◌/◌, ◌%◌, ◌<◌, ◌≤◌, length, take, drop, set, get_or, ltb}
use Rattle.std.proofs.Common.{sym, ap, ◌∙◌, subst, inl, inr, ⊎_elim, arith, take-suc, take-suc-set, add-one, lt-ltb, le-ltb, le-leb, ltb-true, ltb-false}
use mathlib.Core.List.{List, [], ◌∷◌, ◌++◌, map, append_assoc, head-eq_of_cons-eq, tail-eq_of_cons-eq}
use Rattle.std.proofs.lemmas.List.{length-map}
use Rattle.std.proofs.Math.ListN.{get_or-map, get_or-append}
use Rattle.std.proofs.Math.Numerals.{add-two}
use Rattle.std.proofs.lemmas.Bool.{lt-leb}
use Rattle.std.specs.Prelude.{IsSome, is_some, true, false}
use Rattle.laws.specs.Bools.{true_or_false}
use Rattle.laws.specs.Fit.{no_both}
use Rattle.refusal.specs.Outcomes.{Outcome, Done}
use Rattle.lines.specs.Hex.{Each, Byte, digit, hex_of, capital, Spells, DecodeHexSays}
use Rattle.lines.specs.Inside.{DigitOf, IsDigit, AllDigits, SpelledBy}

-- ---- each element of a list, by its place
module _ {A : Type 0} (P : A → Type 0) where
  pub each_at : (l : List A) (k : ℕ) (d : A) → Each P l → k < length l → P (get_or l k d)
  each_at [] k d h l = absurd (omega arith)
  each_at (a ∷ r) zero d h l = h.0
  each_at (a ∷ r) (suc k) d h l = each_at r k d h.1 (omega arith)

  pub each_of : (l : List A) (d : A) → ((k : ℕ) → k < length l → P (get_or l k d)) → Each P l
  each_of [] d f = tt
  each_of (a ∷ r) d f = (f 0 (omega arith), each_of r d (λ k l. f (suc k) (omega arith)))

-- ---- digits and capitals, by cases
pub digit_low : (n : ℕ) → n < 10 → digit n ≡ 48 + n
unfolding digit
digit_low n h = simp (lt-ltb n 10 h)

pub digit_high : (n : ℕ) → 10 ≤ n → digit n ≡ 55 + n
unfolding digit
digit_high n h = simp (le-ltb n 10 h)

pub capital_below : (c : ℕ) → c < 97 → capital c ≡ c
unfolding capital
capital_below c h = simp (lt-leb 97 c h)

pub capital-small : (c : ℕ) → 97 ≤ c → c ≤ 122 → capital c ≡ c - 32
unfolding capital
capital-small c h k = simp (le-leb 97 c h, le-leb c 122 k)

pub capital-above : (c : ℕ) → 122 < c → capital c ≡ c
unfolding capital
capital-above c h =
    let k : 97 ≤ c = omega arith in
    simp (le-leb 97 c k, lt-leb c 122 h)

pub below_or_not : (m n : ℕ) → (m < n) ⊎ (n ≤ m)
below_or_not m n = ⊎_elim (λ h. inl (ltb-true m n h)) (λ h. inr (ltb-false m n h)) (true_or_false (ltb m n))

-- a digit is 48 to 57 or 65 on
pub digit_is_lem : (n : ℕ) → ((n < 10) × (digit n ≡ 48 + n)) ⊎ ((10 ≤ n) × (digit n ≡ 55 + n))
digit_is_lem n = ⊎_elim (λ (h : n < 10). inl (h, digit_low n h)) (λ (h : 10 ≤ n). inr (h, digit_high n h)) (below_or_not n 10)

pub digit_injective : (m n : ℕ) → digit m ≡ digit n → m ≡ n
digit_injective m n e =
    ⊎_elim
    (λ (a : (m < 10) × (digit m ≡ 48 + m)). ⊎_elim (λ (b : (n < 10) × (digit n ≡ 48 + n)). omega arith) (λ (b : (10 ≤ n) × (digit n ≡ 55 + n)). omega arith) (digit_is_lem n))
    (λ (a : (10 ≤ m) × (digit m ≡ 55 + m)). ⊎_elim (λ (b : (n < 10) × (digit n ≡ 48 + n)). omega arith) (λ (b : (10 ≤ n) × (digit n ≡ 55 + n)). omega arith) (digit_is_lem n))
    (digit_is_lem m)

-- ---- the value of a digit
digit_value : (c r : ℕ) → r < 16 → capital c ≡ digit r → DigitOf c (Some r)
digit_value c r h e = record { value = λ d f. (let k : r ≡ d = cc in (omega (arith, h, k), e ∙ ap digit k)); only = λ n l f. ap Some (digit_injective r n (sym e ∙ f)) }

pub digit_number : (c : ℕ) → 48 ≤ c → c ≤ 57 → DigitOf c (Some (c - 48))
digit_number c h k =
    let e : digit (c - 48) ≡ 48 + (c - 48) = digit_low (c - 48) (omega arith) in
    digit_value c (c - 48) (omega arith) (capital_below c (omega arith) ∙ omega arith)

pub digit_capital : (c : ℕ) → 65 ≤ c → c ≤ 70 → DigitOf c (Some (c - 65 + 10))
digit_capital c h k =
    let e : digit (c - 65 + 10) ≡ 55 + (c - 65 + 10) = digit_high (c - 65 + 10) (omega arith) in
    digit_value c (c - 65 + 10) (omega arith) (capital_below c (omega arith) ∙ omega arith)

pub digit_small : (c : ℕ) → 97 ≤ c → c ≤ 102 → DigitOf c (Some (c - 97 + 10))
digit_small c h k =
    let e : digit (c - 97 + 10) ≡ 55 + (c - 97 + 10) = digit_high (c - 97 + 10) (omega arith) in
    digit_value c (c - 97 + 10) (omega arith) (capital-small c h (omega arith) ∙ omega arith)

-- a digit's character lies in one of the three ranges
digit_where : (c n : ℕ) → n < 16 → capital c ≡ digit n → ((48 ≤ c) × (c ≤ 57)) ⊎ (((65 ≤ c) × (c ≤ 70)) ⊎ ((97 ≤ c) × (c ≤ 102)))
digit_where c n h e =
    ⊎_elim
    (λ (b : c < 97).
    let same = capital_below c b in
    ⊎_elim (λ (d : (n < 10) × (digit n ≡ 48 + n)). inl (omega arith)) (λ (d : (10 ≤ n) × (digit n ≡ 55 + n)). inr (inl (omega arith))) (digit_is_lem n))
    (λ (b : 97 ≤ c).
    ⊎_elim
    (λ (u : c < 123).
    let less = capital-small c b (omega arith) in
    ⊎_elim (λ (d : (n < 10) × (digit n ≡ 48 + n)). absurd (omega arith)) (λ (d : (10 ≤ n) × (digit n ≡ 55 + n)). inr (inr (omega arith))) (digit_is_lem n))
    (λ (u : 123 ≤ c).
    let same = capital-above c (omega arith) in
    ⊎_elim (λ (d : (n < 10) × (digit n ≡ 48 + n)). absurd (omega arith)) (λ (d : (10 ≤ n) × (digit n ≡ 55 + n)). absurd (omega arith)) (digit_is_lem n))
    (below_or_not c 123))
    (below_or_not c 97)

pub digit_none : (c : ℕ) → ((48 ≤ c) × (c ≤ 57) → ⊥) → ((65 ≤ c) × (c ≤ 70) → ⊥) → ((97 ≤ c) × (c ≤ 102) → ⊥) → DigitOf c None
digit_none c f g k =
    record {
      value = λ d f. absurd (cc);
      only = λ n l e. ⊎_elim (λ d. absurd (f d)) (⊎_elim (λ d. absurd (g d)) (λ d. absurd (k d))) (digit_where c n l e);
    }

-- a digit has a value
pub digit_some : {c : ℕ} {r : Option ℕ} → DigitOf c r → IsDigit c → IsSome r
digit_some {r = Some d} o i = refl
digit_some {r = None} o i = let f = o.only i.0 i.1 i.2 in absurd (cc)

pub digit_none_is : {c : ℕ} {r : Option ℕ} → DigitOf c r → is_some r ≡ false → IsDigit c → ⊥
digit_none_is {r = Some d} o e i = no_both refl e
digit_none_is {r = None} o e i = let f = o.only i.0 i.1 i.2 in cc

pub digit_some_is : {c : ℕ} {r : Option ℕ} → DigitOf c r → is_some r ≡ true → IsDigit c
digit_some_is {r = Some d} o e = let v = o.value d refl in (d, v.0, v.1)
digit_some_is {r = None} o e = absurd (no_both e refl)

-- ---- the digits of bytes
pub hex_length : (bytes : List ℕ) → length (hex_of bytes) ≡ length bytes + length bytes
hex_length [] = refl
hex_length (b ∷ rest) = omega (arith, hex_length rest)

pub hex_append : (a b : List ℕ) → hex_of (a ++ b) ≡ hex_of a ++ hex_of b
hex_append [] b = refl
hex_append (x ∷ a) b = ap (λ (l : List ℕ). digit (x / 16) ∷ digit (x % 16) ∷ l) (hex_append a b)

pub hex_injective : (a b : List ℕ) → hex_of a ≡ hex_of b → a ≡ b
hex_injective [] [] e = refl
hex_injective [] (y ∷ b) e = absurd (omega (arith, ap length e))
hex_injective (x ∷ a) [] e = absurd (omega (arith, ap length e))
hex_injective (x ∷ a) (y ∷ b) e =
    let h : x / 16 ≡ y / 16 = digit_injective (x / 16) (y / 16) (head-eq_of_cons-eq e) in
    let t = tail-eq_of_cons-eq e in
    let l : x % 16 ≡ y % 16 = digit_injective (x % 16) (y % 16) (head-eq_of_cons-eq t) in
    let p : x ≡ y = omega arith in
    let q : a ≡ b = hex_injective a b (tail-eq_of_cons-eq t) in
    cc

-- every character of them is a digit
pub hex_digits : (bytes : List ℕ) → Each Byte bytes → (k : ℕ) → k < length (hex_of bytes) → (n : ℕ) × (n < 16) × (get_or (hex_of bytes) k 0 ≡ digit n)
hex_digits [] h k l = absurd (omega arith)
hex_digits (b ∷ rest) h zero l = let p : b < 256 = h.0 in (b / 16, omega arith, refl)
hex_digits (b ∷ rest) h (suc zero) l = (b % 16, omega arith, refl)
hex_digits (b ∷ rest) h (suc (suc k)) l = hex_digits rest h.1 k (omega arith)

-- ---- what a line spells
pub spells-length : {line bytes : List ℕ} → Spells line bytes → length line ≡ length bytes + length bytes
spells-length {line} {bytes} s = sym (length-map line capital) ∙ ap length s.digits ∙ hex_length bytes

pub spells_digits : {line bytes : List ℕ} → Spells line bytes → AllDigits line
unfolding capital
spells_digits {line} {bytes} s k l =
    let m : k < length (hex_of bytes) = omega (arith, spells-length s, hex_length bytes) in
    let d = hex_digits bytes s.each k m in
    (d.0, d.1, capital-at ∙ ap (λ (t : List ℕ). get_or t k 0) s.digits ∙ d.2)
  where
    capital-at : capital (get_or line k 0) ≡ get_or (map capital line) k 0
    capital-at = sym (get_or-map capital line k 0)

map-append : (f : ℕ → ℕ) (a b : List ℕ) → map f (a ++ b) ≡ map f a ++ map f b
map-append f [] b = refl
map-append f (x ∷ a) b = ap (λ (l : List ℕ). f x ∷ l) (map-append f a b)

take-two : (l : List ℕ) (n : ℕ) → n + 1 < length l → take (n + 2) l ≡ take n l ++ (get_or l n 0 ∷ get_or l (n + 1) 0 ∷ [])
take-two l n h =
    rw (add-two, add-one) (take-suc l (suc n) 0 (omega arith)
    ∙ ap (λ (t : List ℕ). t ++ (get_or l (suc n) 0 ∷ [])) (take-suc l n 0 (omega arith))
    ∙ append_assoc (take n l) (get_or l n 0 ∷ []) (get_or l (suc n) 0 ∷ []))

-- two digits more, one byte more
pub fill_step : (line out : List ℕ) (i at h l : ℕ) → i < length out → at + 1 < length line → h < 16 → l < 16
    → capital (get_or line at 0) ≡ digit h → capital (get_or line (at + 1) 0) ≡ digit l → SpelledBy (take at line) (take i out)
    → SpelledBy (take (at + 2) line) (take (i + 1) (set out i (h * 16 + l)))
fill_step line out i at h l in-out in-line hh hl eh el e =
    let high : (h * 16 + l) / 16 ≡ h = omega arith in
    let low : (h * 16 + l) % 16 ≡ l = omega arith in
    ap (map capital) (take-two line at in-line)
    ∙ map-append capital (take at line) (get_or line at 0 ∷ get_or line (at + 1) 0 ∷ [])
    ∙ joined (e) (cc)
    ∙ sym (hex_append (take i out) ((h * 16 + l) ∷ []))
    ∙ ap hex_of (sym stored)
  where
    stored : take (i + 1) (set out i (h * 16 + l)) ≡ take i out ++ ((h * 16 + l) ∷ [])
    stored = rw add-one (take-suc-set out i (h * 16 + l) in-out)

    joined : {a b c d : List ℕ} → a ≡ b → c ≡ d → a ++ c ≡ b ++ d
    joined p q = cc

-- the bytes of a line, written over the front of a lent buffer
pub decodes : (line old new after : List ℕ) (n : ℕ) → after ≡ new ++ drop n old → length new ≡ n → 0 < n → n ≤ length old
    → ((k : ℕ) → get_or after k 0 < 256) → SpelledBy line new → DecodeHexSays line old (Done n) after
decodes line old new after n f e some room below s =
    DecodeHexSays.spelled new
    (record {
      some = omega arith;
      each = each_of Byte new 0 (λ k l. subst (λ b. b < 256) (ap (λ (t : List ℕ). get_or t k 0) f ∙ get_or-append new (drop n old) 0 k l) (below k));
      digits = s;
    })
    (omega arith)
    (ap Done (sym e))
    (f ∙ ap (λ m. new ++ drop m old) (sym e))

pub spells_unique : {line a b : List ℕ} → Spells line a → Spells line b → a ≡ b
spells_unique {a = a} {b = b} s t = hex_injective a b (sym s.digits ∙ t.digits)

pub DecodeHexSays-unique : (line old : List ℕ) (r s : Outcome ℕ) (after after' : List ℕ) → DecodeHexSays line old r after
    → DecodeHexSays line old s after' → (r ≡ s) × (after ≡ after')
DecodeHexSays-unique line old r s after after' (DecodeHexSays.spelled a p l e f) (DecodeHexSays.spelled b q m g h) =
    let same : a ≡ b = spells_unique p q in
    (cc, cc)
DecodeHexSays-unique line old r s after after' (DecodeHexSays.spelled a p l e f) (DecodeHexSays.refused n g h) = absurd (n a p l)
DecodeHexSays-unique line old r s after after' (DecodeHexSays.refused n e f) (DecodeHexSays.spelled b q m g h) = absurd (n b q m)
DecodeHexSays-unique line old r s after after' (DecodeHexSays.refused n e f) (DecodeHexSays.refused m g h) = (cc, cc)
