-- Laws: a list by its places, and after a store.
use Rattle.std.specs.Prelude.{◌≡◌, List, [], ◌∷◌, ◌++◌, ℕ, zero, suc, ◌+◌, ◌<◌, ◌≤◌, length, drop, set, get_or}
use Rattle.std.proofs.Common.{sym, ap, ◌∙◌, append_assoc, arith, add-zero, length-append, drop-cons}
use Rattle.std.proofs.lemmas.List.{set_at}

-- n elements from place i on
abbrev pub from : List ℕ → ℕ → ℕ → List ℕ
from bytes i zero = []
from bytes i (suc n) = get_or bytes i 0 ∷ from bytes (i + 1) n

pub from_place : (bytes : List ℕ) (i n : ℕ) → i + n ≤ length bytes → drop i bytes ≡ from bytes i n ++ drop (i + n) bytes
from_place bytes i zero h = ap (λ m. drop m bytes) (sym (add-zero i))
from_place bytes i (suc n) h =
    let p : suc i ≡ i + 1 = omega arith in
    let q : i + 1 + n ≡ i + suc n = omega arith in
    drop-cons bytes i 0 (omega arith)
    ∙ ap (λ m. get_or bytes i 0 ∷ drop m bytes) p
    ∙ ap (λ (l : List ℕ). get_or bytes i 0 ∷ l) (from_place bytes (i + 1) n (omega arith))
    ∙ ap (λ m. get_or bytes i 0 ∷ from bytes (i + 1) n ++ drop m bytes) q

-- two places written, one place written
pub two-set : (front old : List ℕ) (at x y : ℕ) → length front ≡ at → at + 2 ≤ length old
    → set (set (front ++ drop at old) at x) (at + 1) y ≡ (front ++ x ∷ y ∷ []) ++ drop (at + 2) old
two-set front old at x y e h =
    ap (λ (l : List ℕ). set (set (front ++ l) at x) (at + 1) y) (from_place old at 2 h)
    ∙ ap (λ (l : List ℕ). set l (at + 1) y) (set_at front (get_or old at 0) (get_or old (at + 1) 0 ∷ drop (at + 2) old) x at e)
    ∙ ap (λ (l : List ℕ). set l (at + 1) y) (sym (append_assoc front (x ∷ []) (get_or old (at + 1) 0 ∷ drop (at + 2) old)))
    ∙ set_at (front ++ x ∷ []) (get_or old (at + 1) 0) (drop (at + 2) old) y (at + 1) (length-append front (x ∷ []) ∙ omega arith)
    ∙ append_assoc front (x ∷ []) (y ∷ drop (at + 2) old)
    ∙ sym (append_assoc front (x ∷ y ∷ []) (drop (at + 2) old))

pub one_set : (front old : List ℕ) (at x : ℕ) → length front ≡ at → at < length old
    → set (front ++ drop at old) at x ≡ (front ++ x ∷ []) ++ drop (at + 1) old
one_set front old at x e h =
    ap (λ (l : List ℕ). set (front ++ l) at x) (from_place old at 1 (omega arith))
    ∙ set_at front (get_or old at 0) (drop (at + 1) old) x at e
    ∙ sym (append_assoc front (x ∷ []) (drop (at + 1) old))
