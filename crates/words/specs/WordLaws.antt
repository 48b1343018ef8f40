-- Laws: two answers are equal; words read as they look; the first word of a text and the rest.
use Rattle.std.specs.Prelude.{◌≡◌, refl, Bool, true, false, cond, Option, Some, None, unwrap_or, eqb, ltb, length, drop, get_or, set, ℤ}
use Rattle.std.proofs.Common.{append-nil, sym, ◌∙◌, length-set, drop_of_length-le, take-append-drop, drop-drop, take-suc-set, drop-set-lt, add-one}
use Rattle.std.proofs.Math.Path.{ap}
use mathlib.Core.List.{List, [], ◌∷◌, ◌++◌}
use Prim.Native.Nat.{ℕ, suc, min, ◌+◌, ◌-◌, ◌*◌, ◌<◌, ◌≤◌}
use native.Mathlib.Omega.{arith}
use Rattle.std.proofs.Math.ListN.{take, length-drop}
use Rattle.std.proofs.Math.Seq.{drop-cons, append_snoc}
use borrow.Author.Tests.{lt-ltb, le-ltb, eq-eqb, ne_eqb}
use Rattle.std.proofs.lemmas.Bool.{ltb-false}
use Rattle.std.specs.List.{position, position_or_len, slice_range}
use Rattle.std.proofs.lemmas.List.Recursion.{is_position_or_len}
use Rattle.std.specs.Option.{option_map}
use Rattle.std.proofs.lemmas.List.Folds.{drop_split}
use Rattle.words.specs.Words.{index_of, FindSays, digit_of, digits_after, digits, negated, value_of, joined, words_of, leading, numbers_of, over, ValueSays, NumbersSays, SignedSays, Signed32Says}

pub FindSays-unique : (t : List ℕ) (f b : ℕ) (r s : Option ℕ) → FindSays t f b r → FindSays t f b s → r ≡ s
FindSays-unique t f b r s p q = p ∙ sym q

pub ValueSays-unique : (w : List ℕ) (r s : Option ℕ) → ValueSays w r → ValueSays w s → r ≡ s
ValueSays-unique w r s p q = p ∙ sym q

pub NumbersSays-unique : (t o : List ℕ) (r s : ℕ) (a b : List ℕ) → NumbersSays t o r a → NumbersSays t o s b → (r ≡ s) × (a ≡ b)
NumbersSays-unique t o r s a b p q = (p.0 ∙ sym q.0, p.1 ∙ sym q.1)

pub SignedSays-unique : (b : ℕ) (r s : ℤ) → SignedSays b r → SignedSays b s → r ≡ s
SignedSays-unique b r s p q = p ∙ sym q

pub Signed32Says-unique : (b : ℕ) (r s : ℤ) → Signed32Says b r → Signed32Says b s → r ≡ s
Signed32Says-unique b r s p q = p ∙ sym q

-- ---- the first place of a byte

pub index_position : (b : ℕ) (t : List ℕ) → index_of b t ≡ position_or_len (λ x. eqb x b) t
unfolding index_of
index_position b = is_position_or_len (index_of b) (λ x. eqb x b) refl (λ x r. ap (λ (n : ℕ). cond (eqb x b) 0 n) (one_more (index_of b r)))
  where
    one_more : (n : ℕ) → suc n ≡ 1 + n
    one_more n = omega arith

pub index_le : (b : ℕ) (t : List ℕ) → index_of b t ≤ length t
unfolding index_of
index_le b [] = omega arith
index_le b (x ∷ r) = by (eqb x b) (index_le b r)
  where
    by : (e : Bool) → index_of b r ≤ length r → cond e 0 (suc (index_of b r)) ≤ suc (length r)
    by true h = omega arith
    by false h = omega arith

behind : (t : List ℕ) (f : ℕ) → f ≤ length t → slice_range t f (length t) ≡ drop f t
behind t f h = sym (drop_split t f (length t) h ∙ ap (λ (l : List ℕ). slice_range t f (length t) ++ l) (drop_of_length-le t {i = length t} (omega arith)) ∙ append-nil (slice_range t f (length t)))

-- a search of what stands from there on
module _ (t : List ℕ) (f b : ℕ) (h : f ≤ length t) (o : Option ℕ) where
  pub found_lem : o ≡ position (λ x. eqb x b) (slice_range t f (length t)) → FindSays t f b (option_map (λ i. f + i) o)
  found_lem e =
      ap (option_map (λ i. f + i)) (e ∙ ap (λ (l : List ℕ). position (λ x. eqb x b) l) (behind t f h))
      ∙ by (ltb (position_or_len (λ x. eqb x b) (drop f t)) (length (drop f t)))
      ∙ ap (λ (n : ℕ). cond (ltb n (length (drop f t))) (Some (f + n)) None) (sym (index_position b (drop f t)))
    where
      by : (x : Bool) → option_map (λ i. f + i) (cond x (Some (position_or_len (λ x. eqb x b) (drop f t))) None)
          ≡ cond x (Some (f + position_or_len (λ x. eqb x b) (drop f t))) None
      by true = refl
      by false = refl

pub not_found : (t : List ℕ) (f b : ℕ) → length t < f → FindSays t f b None
unfolding index_of
not_found t f b h = rw (drop_of_length-le t {i = f} (omega arith)) refl

-- a place that is found, or else the text's length
pub found_place : (t : List ℕ) (a b e : ℕ) (r : Option ℕ) → a < length t → FindSays t a b r → e ≡ unwrap_or r (length t) → e ≡ a + index_of b (drop a t)
found_place t a b e r h p q =
    by (ltb (index_of b (drop a t)) (length (drop a t))) refl (q ∙ ap (λ (o : Option ℕ). unwrap_or o (length t)) p)
  where
    by : (x : Bool) → ltb (index_of b (drop a t)) (length (drop a t)) ≡ x → e ≡ unwrap_or (cond x (Some (a + index_of b (drop a t))) None) (length t)
        → e ≡ a + index_of b (drop a t)
    by true w v = v
    by false w v =
        let k : length (drop a t) ≤ index_of b (drop a t) = ltb-false _ _ w in
        let m : index_of b (drop a t) ≤ length (drop a t) = index_le b (drop a t) in
        omega (arith, v, k, m, length-drop a t)

-- ---- a line

-- "-7 x0A 9" and an end that is no number
figure : numbers_of (words_of (45 ∷ 55 ∷ 32 ∷ 120 ∷ 48 ∷ 65 ∷ 32 ∷ 57 ∷ 32 ∷ 61 ∷ [])) ≡ 18446744073709551609 ∷ 10 ∷ 9 ∷ []
unfolding numbers_of words_of joined leading value_of negated digits digits_after digit_of
figure = refl

-- ---- digits, from a place on

pub digits_all : (base : ℕ) (t : List ℕ) → 0 < length t → digits_after base 0 t ≡ digits base t
unfolding digits
digits_all base [] h = absurd (omega arith)
digits_all base (b ∷ r) h = refl

pub digits_none : (base : ℕ) (t : List ℕ) → length t ≡ 0 → digits base t ≡ None
unfolding digits
digits_none base [] h = refl
digits_none base (b ∷ r) h = absurd (omega arith)

pub digits_end : (base n i : ℕ) (t : List ℕ) → length t ≤ i → digits_after base n (drop i t) ≡ Some n
unfolding digits_after
digits_end base n i t h = rw (drop_of_length-le t {i = i} h)

module _ (base n i : ℕ) (t : List ℕ) (h : i < length t) where
  pub digit_bad : base ≤ digit_of (get_or t i 0) → digits_after base n (drop i t) ≡ None
  unfolding digits_after
  digit_bad g = rw (drop-cons t i 0 h) (simp (le-ltb (digit_of (get_or t i 0)) base g))

  pub digit_full : digit_of (get_or t i 0) < base → 1152921504606846976 ≤ n → digits_after base n (drop i t) ≡ None
  unfolding digits_after
  digit_full g k = rw (drop-cons t i 0 h) (simp (lt-ltb (digit_of (get_or t i 0)) base g, le-ltb n 1152921504606846976 k))

  pub digit-next : digit_of (get_or t i 0) < base → n < 1152921504606846976 → digits_after base n (drop i t) ≡ digits_after base (n * base + digit_of (get_or t i 0)) (drop (i + 1) t)
  unfolding digits_after
  digit-next g k = rw (add-one, drop-cons t i 0 h) (simp (lt-ltb (digit_of (get_or t i 0)) base g, lt-ltb n 1152921504606846976 k))

-- ---- one word

pub value_none : (w : List ℕ) → length w ≡ 0 → value_of w ≡ None
unfolding value_of
value_none [] h = refl
value_none (b ∷ r) h = absurd (omega arith)

pub value-minus : (w : List ℕ) → 0 < length w → get_or w 0 0 ≡ 45 → value_of w ≡ negated (digits 10 (drop 1 w))
unfolding value_of
value-minus [] h e = absurd (omega arith)
value-minus (b ∷ r) h e = simp (eq-eqb b 45 e)

pub value_hex : (w : List ℕ) → 0 < length w → get_or w 0 0 ≡ 120 → value_of w ≡ digits 16 (drop 1 w)
unfolding value_of
value_hex [] h e = absurd (omega arith)
value_hex (b ∷ r) h e = simp (ne_eqb b 45 (λ z. omega (arith, e, z)), eq-eqb b 120 e)

pub value_decimal : (w : List ℕ) → 0 < length w → (get_or w 0 0 ≡ 45 → ⊥) → (get_or w 0 0 ≡ 120 → ⊥) → value_of w ≡ digits 10 w
unfolding value_of
value_decimal [] h d e = absurd (omega arith)
value_decimal (b ∷ r) h d e = simp (ne_eqb b 45 d, ne_eqb b 120 e)

-- ---- words

-- a text that is not empty is its first word and the words behind the space
first_word : (t : List ℕ) → 0 < length t → words_of t ≡ take (index_of 32 t) t ∷ words_of (drop (suc (index_of 32 t)) t)
unfolding words_of joined index_of
first_word [] h = absurd (omega arith)
first_word (b ∷ []) h = by (eqb b 32)
  where
    by : (e : Bool) → cond e ([] ∷ []) ((b ∷ []) ∷ []) ≡ take (cond e 0 1) (b ∷ []) ∷ words_of (drop (suc (cond e 0 1)) (b ∷ []))
    by true = refl
    by false = refl
first_word (b ∷ c ∷ r) h = by (eqb b 32) (first_word (c ∷ r) (omega arith))
  where
    by : (e : Bool) → words_of (c ∷ r) ≡ take (index_of 32 (c ∷ r)) (c ∷ r) ∷ words_of (drop (suc (index_of 32 (c ∷ r))) (c ∷ r))
        → cond e ([] ∷ words_of (c ∷ r)) (joined b (words_of (c ∷ r))) ≡ take (cond e 0 (suc (index_of 32 (c ∷ r)))) (b ∷ c ∷ r) ∷ words_of (drop (suc (cond e 0 (suc (index_of 32 (c ∷ r))))) (b ∷ c ∷ r))
    by true i = refl
    by false i = ap (joined b) i

-- the numbers from a place of a text on
abbrev pub rest : List ℕ → ℕ → List ℕ
rest t a = numbers_of (words_of (drop a t))

module _ (t : List ℕ) (a e : ℕ) (h : a < length t) (found : e ≡ a + index_of 32 (drop a t)) where
  word_next : words_of (drop a t) ≡ take (e - a) (drop a t) ∷ words_of (drop (e + 1) t)
  word_next =
      let k : e - a ≡ index_of 32 (drop a t) = omega (arith, found) in
      let m : e + 1 ≡ a + suc (index_of 32 (drop a t)) = omega (arith, found) in
      rw (k, m) (first_word (drop a t) (rw length-drop (omega arith)) ∙ ap (λ (r : List ℕ). take (index_of 32 (drop a t)) (drop a t) ∷ words_of r) (drop-drop (suc (index_of 32 (drop a t))) a t))

  pub rest-next : (x : ℕ) → Some x ≡ value_of (take (e - a) (drop a t)) → rest t a ≡ x ∷ rest t (e + 1)
  unfolding numbers_of leading
  rest-next x v = rw (word_next, ← v)

  pub rest_stop : None ≡ value_of (take (e - a) (drop a t)) → rest t a ≡ []
  unfolding numbers_of leading
  rest_stop v = rw (word_next, ← v)

pub rest_end : (t : List ℕ) (a : ℕ) → length t ≤ a → rest t a ≡ []
unfolding numbers_of words_of
rest_end t a h = rw (drop_of_length-le t {i = a} h)

-- ---- the loop of `numbers`: n numbers are read, and the text from a on is to come

over_full : (ns : List ℕ) → over ns [] ≡ []
unfolding over
over_full [] = refl
over_full (n ∷ ns) = refl

put_next : (x : ℕ) (ns out : List ℕ) (n : ℕ) → n < length out → take (n + 1) (set out n x) ++ over ns (drop (n + 1) (set out n x)) ≡ take n out ++ over (x ∷ ns) (drop n out)
unfolding over
put_next x ns out n h = simp (add-one, take-suc-set out n x h, drop-set-lt (suc n) out n x (omega arith), drop-cons out n 0 h, append_snoc)

pub record Reading (t before out : List ℕ) (n a : ℕ) : Type 0 where
  pub room : n ≤ length before
  pub same : length out ≡ length before
  pub list : take n out ++ over (rest t a) (drop n out) ≡ over (rest t 0) before
  pub count : n + min (length (rest t a)) (length before - n) ≡ min (length (rest t 0)) (length before)

pub reading_starts : (t o : List ℕ) → Reading t o o 0 0
reading_starts t o = record {
  room = omega arith;
  same = refl;
  list = refl;
  count = omega arith;
}

pub reading_next : (t b o : List ℕ) (n a e x : ℕ) → Reading t b o n a → n < length o → rest t a ≡ x ∷ rest t e → Reading t b (set o n x) (n + 1) e
reading_next t b o n a e x r h q = record {
  room = omega (arith, r.same);
  same = length-set o n x ∙ r.same;
  list = put_next x (rest t e) o n h ∙ ap (λ (ns : List ℕ). take n o ++ over ns (drop n o)) (sym q) ∙ r.list;
  count = omega (arith, r.count, r.same, ap length q);
}

pub reading_ends : (t b o : List ℕ) (n a : ℕ) → Reading t b o n a → rest t a ≡ [] → NumbersSays t b n o
unfolding over
reading_ends t b o n a r q = (
  omega (arith, r.count, ap length q),
  sym (take-append-drop n o) ∙ ap (λ (ns : List ℕ). take n o ++ over ns (drop n o)) (sym q) ∙ r.list,
)

pub reading_full : (t b o : List ℕ) (n a : ℕ) → Reading t b o n a → length o ≤ n → NumbersSays t b n o
reading_full t b o n a r h =
    let z : drop n o ≡ [] = drop_of_length-le o {i = n} h in (
      omega (arith, r.count, r.same, r.room),
      sym (take-append-drop n o) ∙ ap (λ (l : List ℕ). take n o ++ l) (z ∙ sym (over_full (rest t a)) ∙ ap (over (rest t a)) (sym z)) ∙ r.list,
    )
