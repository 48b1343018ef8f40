-- Laws: two requests do not share a frame; what the parts of a frame give, and when no request fits.
use Rattle.std.specs.Prelude.{◌≡◌, refl, cond, Option, Some, None, List, [], ◌∷◌, ◌++◌, ◌⊎◌, ℕ, zero, suc, ◌+◌, ◌-◌, ◌*◌, ◌/◌, ◌%◌, ◌^◌, ◌<◌, ◌≤◌, ltb, eqb, ℤ, pos, negsuc, length, take, drop, get_or}
use Rattle.std.proofs.Common.{sym, ap, ◌∙◌, inl, inr, ⊎_elim, arith, mod-eq_of_lt, lt-ltb, le-ltb, length-drop, drop_of_length-le, get_or-drop}
use Rattle.std.proofs.Math.Nat.{one-le-pow, pow-succ'}
use Rattle.std.proofs.Math.Arith.{mod-mul}
use Rattle.cover.specs.declared.Kind.{Kind}
use Rattle.cover.specs.declared.Kind.TheVariants.{Circle, Triangle, Quad}
use Rattle.cover.specs.Cover.{places}
use Rattle.refusal.specs.Outcomes.{Outcome, Done}
use Rattle.frame.specs.declared.Request as code
use Rattle.lines.specs.Hex.{Each, Byte}
use Rattle.lines.specs.HexLaws.{each_of}
use Rattle.lines.specs.PlaceLaws.{from, from_place}
use Rattle.frame.specs.Frames.{big, twos, coordinates, Short, Request, new, row, score, paint, number, frame, Shaped, Fitting, Asks, decoded, DecodeSays}
use Rattle.frame.specs.Inside.{Held, KindIn, OpacityIn, ShapeIn, ShapeFound}

-- ---- big-endian numbers
-- the number that bytes are the digits of
value : List ℕ → ℕ
value [] = 0
value (b ∷ rest) = b * 256 ^ length rest + value rest

pub big-length : (n v : ℕ) → length (big n v) ≡ n
big-length zero v = refl
big-length (suc n) v = ap suc (big-length n v)

pub big-bytes : (n v : ℕ) → Each Byte (big n v)
big-bytes zero v = tt
big-bytes (suc n) v = (omega arith, big-bytes n v)

big-mod : (n v : ℕ) → value (big n v) ≡ v % 256 ^ n
unfolding value
big-mod zero v = omega arith
big-mod (suc n) v =
    ap (λ m. v / 256 ^ n % 256 * 256 ^ m + value (big n v)) (big-length n v)
    ∙ ap (λ m. v / 256 ^ n % 256 * 256 ^ n + m) (big-mod n v)
    ∙ sym (mod-mul v {m = 256} {c = 256 ^ n} (omega arith) (one-le-pow n 256 (omega arith)))
    ∙ ap (λ m. v % m) (sym (pow-succ' 256 n))

big-value : (n v : ℕ) → v < 256 ^ n → value (big n v) ≡ v
big-value n v h = big-mod n v ∙ mod-eq_of_lt h

-- ---- coordinates
untwos : ℕ → ℤ
untwos v = cond (ltb v 32768) (pos v) (negsuc (65535 - v))

untwos-twos : (z : ℤ) → Short z → untwos (twos z) ≡ z
unfolding untwos
untwos-twos (pos n) h = simp (lt-ltb n 32768 h)
untwos-twos (negsuc n) h = simp (le-ltb (65535 - n) 32768 (omega arith)) (ap negsuc (omega arith))

twos_below : (z : ℤ) → Short z → twos z < 65536
twos_below (pos n) h = omega arith
twos_below (negsuc n) h = omega arith

places_from : List ℕ → List ℤ
places_from [] = []
places_from (x ∷ []) = []
places_from (x ∷ y ∷ rest) = untwos (x * 256 + y) ∷ places_from rest

places_from_lem : (zs : List ℤ) → Each Short zs → places_from (coordinates zs) ≡ zs
unfolding places_from
places_from_lem [] h = refl
places_from_lem (z ∷ rest) h =
    let v : twos z < 65536 = twos_below z h.0 in
    let p : twos z / 256 % 256 * 256 + twos z / 1 % 256 ≡ twos z = omega arith in
    let q : untwos (twos z / 256 % 256 * 256 + twos z / 1 % 256) ≡ z = ap untwos p ∙ untwos-twos z h.0 in
    let r : places_from (coordinates rest) ≡ rest = places_from_lem rest h.1 in
    cc

pub coordinates-length : (zs : List ℤ) → length (coordinates zs) ≡ length zs + length zs
coordinates-length [] = refl
coordinates-length (z ∷ rest) = omega (arith, coordinates-length rest)

-- ---- kinds of shape: their places tell them apart
kind_from : List ℤ → Kind
kind_from l =
    cond (eqb (length l) 3) (Circle (at 0) (at 1) (at 2))
    (cond (eqb (length l) 6) (Triangle (at 0) (at 1) (at 2) (at 3) (at 4) (at 5))
    (Quad (at 0) (at 1) (at 2) (at 3) (at 4) (at 5) (at 6) (at 7)))
  where
    at : ℕ → ℤ
    at i = get_or l i (pos 0)

kind_from_lem : (k : Kind) → kind_from (places k) ≡ k
unfolding kind_from
kind_from_lem (Circle cx cy r) = refl
kind_from_lem (Triangle x0 y0 x1 y1 x2 y2) = refl
kind_from_lem (Quad x0 y0 x1 y1 x2 y2 x3 y3) = refl

-- ---- two requests do not share a frame: each is found from its own
request_from : List ℕ → Request
request_from bytes =
    cond (eqb (byte 0) 1) (new (byte 1) (byte 2) (byte 3) (byte 4) (byte 5))
    (cond (eqb (byte 0) 2) (row (byte 1) (drop 2 bytes))
    (cond (eqb (byte 0) 3) (score kind opacity) (paint kind opacity)))
  where
    byte : ℕ → ℕ
    byte i = get_or bytes i 0

    kind : Kind
    kind = kind_from (places_from (drop 6 bytes))

    opacity : ℕ
    opacity = value (take 4 (drop 2 bytes))

kind_back : (k : Kind) (o : ℕ) → Shaped k o → kind_from (places_from (coordinates (places k))) ≡ k
kind_back k o h = ap kind_from (places_from_lem (places k) h.1) ∙ kind_from_lem k

request_from_lem : (q : Request) → Fitting q → request_from (frame q) ≡ q
unfolding request_from
request_from_lem (new w h r g b) f = refl
request_from_lem (row y pixels) f = refl
request_from_lem (score k o) f = let p = kind_back k o f in let q = big-value 4 o f.0 in cc
request_from_lem (paint k o) f = let p = kind_back k o f in let q = big-value 4 o f.0 in cc

pub frame_injective : (p q : Request) → Fitting p → Fitting q → frame p ≡ frame q → p ≡ q
frame_injective p q f g e = sym (request_from_lem p f) ∙ ap request_from e ∙ request_from_lem q g

pub asks_unique : {bytes : List ℕ} {p q : Request} → Asks bytes p → Asks bytes q → p ≡ q
asks_unique {p = p} {q = q} a b = frame_injective p q a.fitting b.fitting (sym a.same ∙ b.same)

pub DecodeSays-unique : (bytes : List ℕ) (r s : Outcome code.Request) → DecodeSays bytes r → DecodeSays bytes s → r ≡ s
DecodeSays-unique bytes r s (DecodeSays.asked p a e) (DecodeSays.asked q b f) = e ∙ ap (λ q. Done (decoded q)) (asks_unique a b) ∙ sym f
DecodeSays-unique bytes r s (DecodeSays.asked p a e) (DecodeSays.refused n f) = absurd (n p a)
DecodeSays-unique bytes r s (DecodeSays.refused n e) (DecodeSays.asked q b f) = absurd (n q b)
DecodeSays-unique bytes r s (DecodeSays.refused n e) (DecodeSays.refused m f) = e ∙ sym f

-- ---- the parts of a shape, and when bytes have none
-- coordinates that bytes hold up to their end
held-coordinates : (bytes : List ℕ) (i : ℕ) (zs : List ℤ) → Held bytes i zs → length bytes ≡ i + (length zs + length zs)
    → coordinates zs ≡ drop i bytes
held-coordinates bytes i [] h e = sym (drop_of_length-le bytes {i = i} (omega arith))
held-coordinates bytes i (z ∷ rest) h e =
    ap (λ (l : List ℕ). l ++ coordinates rest) h.0.two
    ∙ ap (λ (l : List ℕ). get_or bytes i 0 ∷ get_or bytes (i + 1) 0 ∷ l) (held-coordinates bytes (i + 2) rest h.1 (omega arith))
    ∙ sym (from_place bytes i 2 (omega arith))

held_short : (bytes : List ℕ) (i : ℕ) (zs : List ℤ) → Held bytes i zs → Each Short zs
held_short bytes i [] h = tt
held_short bytes i (z ∷ rest) h = (h.0.short, held_short bytes (i + 2) rest h.1)

-- how many places a kind has, by its number
abbrev pub places_of : ℕ → ℕ
places_of n = cond (eqb n 1) 3 (cond (eqb n 2) 6 8)

places_count : (k : Kind) → length (places k) ≡ places_of (number k)
places_count (Circle cx cy r) = refl
places_count (Triangle x0 y0 x1 y1 x2 y2) = refl
places_count (Quad x0 y0 x1 y1 x2 y2 x3 y3) = refl

numbered : (k : Kind) → (number k ≡ 1) ⊎ ((number k ≡ 2) ⊎ (number k ≡ 3))
numbered (Circle cx cy r) = inl refl
numbered (Triangle x0 y0 x1 y1 x2 y2) = inr (inl refl)
numbered (Quad x0 y0 x1 y1 x2 y2 x3 y3) = inr (inr refl)

module _ (bytes : List ℕ) where
  pub shape_found : (k : Kind) (o n : ℕ) → KindIn bytes n k → get_or bytes 1 0 ≡ n → OpacityIn bytes o → o < 2 ^ 32 → ShapeIn bytes k o
  shape_found k o n h e p l =
      let all : coordinates (places k) ≡ drop 6 bytes = held-coordinates bytes 6 (places k) h.held h.size in
      let six : 6 ≤ length bytes = omega (arith, h.size) in
      record {
        shaped = (l, held_short bytes 6 (places k) h.held);
        same =
            from_place bytes 1 5 six
            ∙ ap (λ m. m ∷ get_or bytes 2 0 ∷ get_or bytes 3 0 ∷ get_or bytes 4 0 ∷ get_or bytes 5 0 ∷ drop 6 bytes) (e ∙ sym h.named)
            ∙ ap (λ (t : List ℕ). number k ∷ t ++ drop 6 bytes) (sym p)
            ∙ ap (λ (t : List ℕ). number k ∷ big 4 o ++ t) (sym all);
      }

  shape_size : (k : Kind) (o : ℕ) → ShapeIn bytes k o → length bytes ≡ 6 + (length (places k) + length (places k))
  shape_size k o s = omega (arith, length-drop 1 bytes, ap length s.same, coordinates-length (places k))

  shape-number : (k : Kind) (o : ℕ) → ShapeIn bytes k o → get_or bytes 1 0 ≡ number k
  shape-number k o s = sym (get_or-drop 1 bytes 0 0) ∙ ap (λ (l : List ℕ). get_or l 0 0) s.same

  pub no_shape_short : length bytes < 6 → (k : Kind) (o : ℕ) → ShapeIn bytes k o → ⊥
  no_shape_short h k o s = omega (arith, shape_size k o s)

  pub no_shape_size : (n : ℕ) → get_or bytes 1 0 ≡ n → (length bytes ≡ 6 + (places_of n + places_of n) → ⊥) → (k : Kind) (o : ℕ) → ShapeIn bytes k o → ⊥
  no_shape_size n e f k o s =
      f (shape_size k o s ∙ ap (λ m. 6 + (m + m)) (places_count k ∙ ap places_of (sym (shape-number k o s) ∙ e)))

  pub no_shape_number : (get_or bytes 1 0 ≡ 1 → ⊥) → (get_or bytes 1 0 ≡ 2 → ⊥) → (get_or bytes 1 0 ≡ 3 → ⊥) → (k : Kind) (o : ℕ) → ShapeIn bytes k o → ⊥
  no_shape_number f g h k o s =
      let e = shape-number k o s in
      ⊎_elim (λ p. f (e ∙ p)) (⊎_elim (λ p. g (e ∙ p)) (λ p. h (e ∙ p))) (numbered k)

  -- ---- frames, by their first byte
  first : (q : Request) → Asks bytes q → get_or bytes 0 0 ≡ get_or (frame q) 0 0
  first q a = ap (λ (l : List ℕ). get_or l 0 0) a.same

  pub asks_new : length bytes ≡ 6 → get_or bytes 0 0 ≡ 1 → ((k : ℕ) → get_or bytes k 0 < 256)
      → Asks bytes (new (get_or bytes 1 0) (get_or bytes 2 0) (get_or bytes 3 0) (get_or bytes 4 0) (get_or bytes 5 0))
  asks_new l e b =
      record {
        fitting = (b 1, (b 2, (b 3, (b 4, (b 5, tt)))));
        same =
            from_place bytes 0 6 (omega arith)
            ∙ ap (λ (t : List ℕ). from bytes 0 6 ++ t) (drop_of_length-le bytes {i = 6} (omega arith))
            ∙ ap (λ m. m ∷ from bytes 1 5) e;
      }

  pub asks_row : 2 ≤ length bytes → length bytes ≤ 50 → get_or bytes 0 0 ≡ 2 → ((k : ℕ) → get_or bytes k 0 < 256)
      → Asks bytes (row (get_or bytes 1 0) (drop 2 bytes))
  asks_row l m e b =
      record {
        fitting = ((b 1, each_of Byte (drop 2 bytes) 0 (λ k _. rw get_or-drop (b (2 + k)))), simp length-drop (omega arith));
        same = from_place bytes 0 2 l ∙ ap (λ n. n ∷ get_or bytes 1 0 ∷ drop 2 bytes) e;
      }

  pub asks_score : (k : Kind) (o : ℕ) → 0 < length bytes → get_or bytes 0 0 ≡ 3 → ShapeIn bytes k o → Asks bytes (score k o)
  asks_score k o l e s =
      record { fitting = s.shaped; same = from_place bytes 0 1 l ∙ ap (λ n. n ∷ drop 1 bytes) e ∙ ap (λ (t : List ℕ). 3 ∷ t) s.same }

  pub asks_paint : (k : Kind) (o : ℕ) → 0 < length bytes → get_or bytes 0 0 ≡ 4 → ShapeIn bytes k o → Asks bytes (paint k o)
  asks_paint k o l e s =
      record { fitting = s.shaped; same = from_place bytes 0 1 l ∙ ap (λ n. n ∷ drop 1 bytes) e ∙ ap (λ (t : List ℕ). 4 ∷ t) s.same }

  -- ---- and when no request fits
  pub no_bytes : length bytes ≡ 0 → (q : Request) → Asks bytes q → ⊥
  no_bytes l (new w h r g b) a = omega (arith, ap length a.same)
  no_bytes l (row y pixels) a = omega (arith, ap length a.same)
  no_bytes l (score k o) a = omega (arith, ap length a.same)
  no_bytes l (paint k o) a = omega (arith, ap length a.same)

  pub no_first : (get_or bytes 0 0 ≡ 1 → ⊥) → (get_or bytes 0 0 ≡ 2 → ⊥) → (get_or bytes 0 0 ≡ 3 → ⊥) → (get_or bytes 0 0 ≡ 4 → ⊥) → (q : Request) → Asks bytes q → ⊥
  no_first f₁ f₂ f₃ f₄ (new w h r g b) a = f₁ (first (new w h r g b) a)
  no_first f₁ f₂ f₃ f₄ (row y pixels) a = f₂ (first (row y pixels) a)
  no_first f₁ f₂ f₃ f₄ (score k o) a = f₃ (first (score k o) a)
  no_first f₁ f₂ f₃ f₄ (paint k o) a = f₄ (first (paint k o) a)

  pub no_new : get_or bytes 0 0 ≡ 1 → (length bytes ≡ 6 → ⊥) → (q : Request) → Asks bytes q → ⊥
  no_new e l (new w h r g b) a = l (ap length a.same)
  no_new e l (row y pixels) a = omega (arith, first (row y pixels) a)
  no_new e l (score k o) a = omega (arith, first (score k o) a)
  no_new e l (paint k o) a = omega (arith, first (paint k o) a)

  pub no_row : get_or bytes 0 0 ≡ 2 → ((2 ≤ length bytes) × (length bytes ≤ 50) → ⊥) → (q : Request) → Asks bytes q → ⊥
  no_row e l (new w h r g b) a = omega (arith, first (new w h r g b) a)
  no_row e l (row y pixels) a = l (omega (arith, ap length a.same, a.fitting.1))
  no_row e l (score k o) a = omega (arith, first (score k o) a)
  no_row e l (paint k o) a = omega (arith, first (paint k o) a)

  pub no_shape : 3 ≤ get_or bytes 0 0 → ((k : Kind) (o : ℕ) → ShapeIn bytes k o → ⊥) → (q : Request) → Asks bytes q → ⊥
  no_shape l f (new w h r g b) a = omega (arith, first (new w h r g b) a)
  no_shape l f (row y pixels) a = omega (arith, first (row y pixels) a)
  no_shape l f (score k o) a = f k o (record { shaped = a.fitting; same = ap (drop 1) a.same })
  no_shape l f (paint k o) a = f k o (record { shaped = a.fitting; same = ap (drop 1) a.same })

-- ---- a shape that was looked for
pub shape_some : {bytes : List ℕ} {r : Option (Kind × ℕ)} (k : Kind) (o : ℕ) → ShapeFound bytes r → r ≡ Some (k, o) → ShapeIn bytes k o
shape_some {bytes} k o (ShapeFound.found j p s e) f =
    let g : (j, p) ≡ (k, o) = cc in
    let a : j ≡ k = ap (λ (x : Kind × ℕ). x.0) g in
    let b : p ≡ o = ap (λ (x : Kind × ℕ). x.1) g in
    rw (a, b) at s
shape_some k o (ShapeFound.unknown n e) f = let z : ◌≡◌ {A = ℕ} 0 1 = cc in absurd (omega arith)

pub shape-none : {bytes : List ℕ} {r : Option (Kind × ℕ)} → ShapeFound bytes r → r ≡ None → (k : Kind) (o : ℕ) → ShapeIn bytes k o → ⊥
shape-none (ShapeFound.found j p s e) f = let z : ◌≡◌ {A = ℕ} 0 1 = cc in absurd (omega arith)
shape-none (ShapeFound.unknown n e) f = n
