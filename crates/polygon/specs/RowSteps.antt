-- Laws: rows of a list of runs that are changed one after another, and changes that follow each other.
use Rattle.std.specs.Prelude.{◌≡◌, Bool, length, get_or, set}
use Rattle.std.proofs.Math.Path.{refl, ap}
use Rattle.std.proofs.Common.{sym, ◌∙◌, subst, length-set, get_or-set_same, get_or-set_other, take-suc, take_all}
use mathlib.Core.List.{List, [], ◌∷◌, ◌++◌, append_assoc}
use Prim.Native.Nat.{ℕ, zero, suc, ◌+◌, ◌*◌, ◌≤◌, ◌<◌, max}
use native.Mathlib.Omega.{arith}
use Rattle.std.proofs.Math.Decide.{ℕ_discrete}
use Rattle.std.proofs.Math.ListN.{take}
use Rattle.laws.specs.Runs.{row_run, runs_to, runs_of}
use Rattle.polygon.specs.Steps.{left_at, right_at, Room, Rows}

-- ---- one row more
module _ (out : List ℕ) (y left right : ℕ) where
  abbrev put : List ℕ
  put = set (set out (y * 2) left) (y * 2 + 1) right

  put-left : y * 2 + 1 < length out → left_at put y ≡ left
  put-left h =
      get_or-set_other (set out (y * 2) left) (y * 2 + 1) (y * 2) right 0 (λ e. absurd (omega (arith, e)))
      ∙ get_or-set_same out (y * 2) left 0 (omega arith)

  put_right : y * 2 + 1 < length out → right_at put y ≡ right
  put_right h = get_or-set_same (set out (y * 2) left) (y * 2 + 1) right 0 (omega (arith, length-set out (y * 2) left))

  put_other : (i : ℕ) → (i ≡ y * 2 → ⊥) → (i ≡ y * 2 + 1 → ⊥) → get_or put i 0 ≡ get_or out i 0
  put_other i a b = get_or-set_other (set out (y * 2) left) (y * 2 + 1) i right 0 b ∙ get_or-set_other out (y * 2) i left 0 a

  put_others : (z : ℕ) → (z ≡ y → ⊥) → (left_at put z ≡ left_at out z) × (right_at put z ≡ right_at out z)
  put_others z n = (
    put_other (z * 2) (λ e. n (omega (arith, e))) (λ e. absurd (omega (arith, e))),
    put_other (z * 2 + 1) (λ e. absurd (omega (arith, e))) (λ e. n (omega (arith, e))),
  )

  put_room : y < 256 → left < 65536 → right < 65536 → Room out → Room put
  put_room h a b r = record {
    size = length-set (set out (y * 2) left) (y * 2 + 1) right ∙ length-set out (y * 2) left ∙ r.size;
    small = λ k. by k (ℕ_discrete k (y * 2)) (ℕ_discrete k (y * 2 + 1));
  }
    where
      by : (k : ℕ) → Dec (k ≡ y * 2) → Dec (k ≡ y * 2 + 1) → get_or put k 0 < 65536
      by k e (yes f) = rw f (omega (arith, put_right (omega (arith, r.size))))
      by k (yes e) (no f) = rw e (omega (arith, put-left (omega (arith, r.size))))
      by k (no e) (no f) = omega (arith, put_other k e f, r.small k)

module _ (R : ℕ → ℕ → ℕ → ℕ → ℕ → Type 0) (first : ℕ) (before : List ℕ) where
  pub rows_none : Room before → Rows R first first before before
  rows_none m = record { room = m; each = λ y a b. absurd (omega arith); above = λ y a. (refl, refl); below = λ y a b. (refl, refl) }

  pub rows_more : (y : ℕ) (out : List ℕ) (left right : ℕ) → first ≤ y → y < 256 → left < 65536 → right < 65536 → Rows R first y before out → R y (left_at out y) (right_at out y) left right
      → Rows R first (y + 1) before (set (set out (y * 2) left) (y * 2 + 1) right)
  rows_more y out left right l h u v r p = record {
    room = put_room out y left right h u v r.room;
    each = λ z a b. by z a b (ℕ_discrete z y);
    above = λ z a. stays z (λ e. absurd (omega (arith, e))) (r.above z a);
    below = λ z a b. stays z (λ e. absurd (omega (arith, e))) (r.below z a (omega arith));
  }
    where
      room : y * 2 + 1 < length out
      room = omega (arith, r.room.size)

      stays : (z : ℕ) → (z ≡ y → ⊥) → (left_at out z ≡ left_at before z) × (right_at out z ≡ right_at before z)
          → (left_at (put out y left right) z ≡ left_at before z) × (right_at (put out y left right) z ≡ right_at before z)
      stays z n e = let o = put_others out y left right z n in (o.0 ∙ e.0, o.1 ∙ e.1)

      by : (z : ℕ) → first ≤ z → z < y + 1 → Dec (z ≡ y) → R z (left_at before z) (right_at before z) (left_at (put out y left right) z) (right_at (put out y left right) z)
      by z a b (yes e) =
          let o = r.below y l (omega arith) in
          subst (λ (t : ℕ). R t (left_at before t) (right_at before t) (left_at (put out y left right) t) (right_at (put out y left right) t)) (sym e)
          (rw (← o.0, ← o.1, put-left out y left right room, put_right out y left right room) p)
      by z a b (no n) =
          let o = put_others out y left right z n in
          rw (o.0, o.1) (r.each z a (omega arith))

  pub rows_done : (past y : ℕ) (out : List ℕ) → past ≤ y → y ≤ max first past → Rows R first y before out → Rows R first past before out
  rows_done past y out l h r = record {
    room = r.room;
    each = λ z a b. r.each z a (omega arith);
    above = r.above;
    below = λ z a b. r.below z a (omega arith);
  }

-- ---- a list whose rows are the runs is the list of runs
module _ (p : ℕ → ℕ → Bool) (w h : ℕ) (out : List ℕ) (size : length out ≡ 512) (each : (y : ℕ) → y < 256 → row_run p w h y ≡ left_at out y ∷ right_at out y ∷ []) where
  to : (n : ℕ) → n ≤ 256 → take (n * 2) out ≡ runs_to p w h n
  unfolding runs_to
  to zero l = refl
  to (suc n) l =
      let e : suc n * 2 ≡ suc (n * 2 + 1) = omega arith in
      let f : n * 2 + 1 ≡ suc (n * 2) = omega arith in
      rw e
      (take-suc out (n * 2 + 1) 0 (omega arith)
      ∙ ap (λ (k : ℕ). take k out ++ right_at out n ∷ []) f
      ∙ ap (λ (r : List ℕ). r ++ right_at out n ∷ []) (take-suc out (n * 2) 0 (omega arith))
      ∙ append_assoc (take (n * 2) out) (left_at out n ∷ []) (right_at out n ∷ [])
      ∙ ap (λ (r : List ℕ). r ++ left_at out n ∷ right_at out n ∷ []) (to n (omega arith))
      ∙ ap (λ (r : List ℕ). runs_to p w h n ++ r) (sym (each n (omega arith))))

  pub runs_of-rows : out ≡ runs_of p w h
  runs_of-rows = sym (take_all 512 out (omega arith)) ∙ to 256 (omega arith)
