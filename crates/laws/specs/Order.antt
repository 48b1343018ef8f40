-- Laws: the order of ℤ: laws. Linear facts need none of these: `omega (arith, zord, ..)` proves them (`Parts`).
use Rattle.std.specs.Prelude.{◌≡◌, refl, ◌⊎◌, ℕ, zero, suc, pred, ◌+◌, ◌*◌, ◌-◌, ◌^◌, ◌≤◌, ◌<◌, ℤ, pos, negsuc, neg_ℤ, ◌+ℤ◌, ◌-ℤ◌, ◌*ℤ◌, ◌≤ℤ◌, ◌<ℤ◌}
use Rattle.std.proofs.Common.{sym, ◌∙◌, ap, subst, inl, inr, ⊎_elim, arith, mul-le-mul_right, mul-le-mul_left}
use Rattle.std.proofs.Math.Decide.{dec_le}
use Rattle.laws.specs.Parts.{P, N, zord, le→, lt→, eq→, le←, lt←, eq←, of+, of-, of*, one_zero, P-neg, N-neg}
use Rattle.laws.specs.Rep.{Rep, v, k, km, ◌⊕◌, ◌⊖◌, ◌⊗◌, ⊝, rep_eq, rep_le, rep_lt, eq_rep, le_rep, lt_rep}

pub ≤ℤ-trans : {a b c : ℤ} → a ≤ℤ b → b ≤ℤ c → a ≤ℤ c
≤ℤ-trans {a} {b} {c} h l = omega (arith, zord)

pub ≤ℤ-<ℤ-trans : {a b c : ℤ} → a ≤ℤ b → b <ℤ c → a <ℤ c
≤ℤ-<ℤ-trans {a} {b} {c} h l = omega (arith, zord)

pub <ℤ-trans : {a b c : ℤ} → a <ℤ b → b <ℤ c → a <ℤ c
<ℤ-trans {a} {b} {c} h l = omega (arith, zord)

pub <ℤ→≤ℤ : {a b : ℤ} → a <ℤ b → a ≤ℤ b
<ℤ→≤ℤ {a} {b} h = omega (arith, zord)

pub ≤ℤ-antisym : {a b : ℤ} → a ≤ℤ b → b ≤ℤ a → a ≡ b
≤ℤ-antisym {a} {b} h l = omega (arith, zord)

pub ≡→≤ℤ : {a b : ℤ} → a ≡ b → a ≤ℤ b
≡→≤ℤ {a} {b} e = omega (arith, zord)

pub ≤ℤ-or-<ℤ : (a b : ℤ) → (a ≤ℤ b) ⊎ (b <ℤ a)
≤ℤ-or-<ℤ a b = by (dec_le (P a + N b) (P b + N a))
  where
    by : Dec (P a + N b ≤ P b + N a) → (a ≤ℤ b) ⊎ (b <ℤ a)
    by (yes h) = inl (le← a b h)
    by (no h) = inr (lt← b a (omega arith))

pub dec≤ℤ : (a b : ℤ) → Dec (a ≤ℤ b)
dec≤ℤ a b = by (≤ℤ-or-<ℤ a b)
  where
    by : (a ≤ℤ b) ⊎ (b <ℤ a) → Dec (a ≤ℤ b)
    by (inl h) = yes h
    by (inr h) = no (λ l. omega (arith, zord))

-- ---- sums
pub +ℤ-mono : {a b c d : ℤ} → a ≤ℤ b → c ≤ℤ d → (a +ℤ c) ≤ℤ (b +ℤ d)
+ℤ-mono {a} {b} {c} {d} h l = omega (arith, zord, of+ a c, of+ b d)

pub -ℤ-mono : {a b c d : ℤ} → a ≤ℤ b → d ≤ℤ c → (a -ℤ c) ≤ℤ (b -ℤ d)
-ℤ-mono {a} {b} {c} {d} h l = omega (arith, zord, of- a c, of- b d)

pub negℤ_anti : {a b : ℤ} → a ≤ℤ b → neg_ℤ b ≤ℤ neg_ℤ a
negℤ_anti {a} {b} h = omega (arith, zord, P-neg a, N-neg a, P-neg b, N-neg b)

-- ---- products
pub *ℤ-mono : {a b : ℤ} (c : ℤ) → pos 0 ≤ℤ c → a ≤ℤ b → (a *ℤ c) ≤ℤ (b *ℤ c)
*ℤ-mono {a} {b} (pos n) z h = rep_le (v a ⊗ k n) (v b ⊗ k n) (omega (arith, mul-le-mul_right n (le→ a b h)))
*ℤ-mono {a} {b} (negsuc n) z h = absurd z.le

pub *ℤ-anti : {a b : ℤ} (c : ℤ) → c ≤ℤ pos 0 → a ≤ℤ b → (b *ℤ c) ≤ℤ (a *ℤ c)
*ℤ-anti {a} {b} (pos zero) z h = rep_le (v b ⊗ k 0) (v a ⊗ k 0) (omega arith)
*ℤ-anti {a} {b} (pos (suc n)) z h = absurd (omega (arith, zord))
*ℤ-anti {a} {b} (negsuc n) z h = rep_le (v b ⊗ km n) (v a ⊗ km n) (omega (arith, mul-le-mul_right (suc n) (le→ a b h)))

pub *ℤ-strict : {a b : ℤ} (c : ℤ) → pos 0 <ℤ c → a <ℤ b → (a *ℤ c) <ℤ (b *ℤ c)
*ℤ-strict {a} {b} (pos zero) z h = absurd z.lt
*ℤ-strict {a} {b} (pos (suc n)) z h = rep_lt (v a ⊗ k (suc n)) (v b ⊗ k (suc n)) (omega (arith, mul-le-mul_right (suc n) (lt→ a b h)))
*ℤ-strict {a} {b} (negsuc n) z h = absurd z.lt

pub *ℤ-cancel≤ : {a b : ℤ} (c : ℤ) → pos 0 <ℤ c → (a *ℤ c) ≤ℤ (b *ℤ c) → a ≤ℤ b
*ℤ-cancel≤ {a} {b} c z h = by (≤ℤ-or-<ℤ a b)
  where
    by : (a ≤ℤ b) ⊎ (b <ℤ a) → a ≤ℤ b
    by (inl l) = l
    by (inr l) = let s : (b *ℤ c) <ℤ (a *ℤ c) = *ℤ-strict c z l in absurd (omega (arith, zord))

pub *ℤ-cancel< : {a b : ℤ} (c : ℤ) → pos 0 <ℤ c → (a *ℤ c) <ℤ (b *ℤ c) → a <ℤ b
*ℤ-cancel< {a} {b} c z h = by (≤ℤ-or-<ℤ b a)
  where
    by : (b ≤ℤ a) ⊎ (a <ℤ b) → a <ℤ b
    by (inl l) = let s : (b *ℤ c) ≤ℤ (a *ℤ c) = *ℤ-mono c (<ℤ→≤ℤ z) l in absurd (omega (arith, zord))
    by (inr l) = l

-- a square is not negative
pub square_nonneg : (a : ℤ) → pos 0 ≤ℤ (a *ℤ a)
square_nonneg (pos n) = omega (arith, zord)
square_nonneg (negsuc n) = omega (arith, zord)

pub *ℤ-nonneg : {a b : ℤ} → pos 0 ≤ℤ a → pos 0 ≤ℤ b → pos 0 ≤ℤ (a *ℤ b)
*ℤ-nonneg {a = pos m} {b = pos n} h l = omega (arith, zord)
*ℤ-nonneg {a = pos m} {b = negsuc n} h l = absurd l.le
*ℤ-nonneg {a = negsuc m} {b} h l = absurd h.le

-- |a * b| ≤ A * B where |a| ≤ A and |b| ≤ B
bound : (pa na pb nb A B : ℕ) → pa + na ≤ A → pb + nb ≤ B → (pa * pb + na * nb) + (pa * nb + na * pb) ≤ A * B
bound pa na pb nb A B h l = omega (arith, mul-le-mul_right (pb + nb) h, mul-le-mul_left A l)

pub of*-bound : (a b : ℤ) (A B : ℕ) → P a + N a ≤ A → P b + N b ≤ B → P (a *ℤ b) + N (a *ℤ b) ≤ A * B
of*-bound a b A B h l = omega (arith, of* a b, one_zero (a *ℤ b), bound (P a) (N a) (P b) (N b) A B h l)

pub ≤ℤ-≢ : {a b : ℤ} → a ≤ℤ b → (a ≡ b → ⊥) → a <ℤ b
≤ℤ-≢ {a} {b} h n = by (≤ℤ-or-<ℤ b a)
  where
    by : (b ≤ℤ a) ⊎ (a <ℤ b) → a <ℤ b
    by (inl l) = absurd (n (≤ℤ-antisym h l))
    by (inr l) = l

-- ---- an order by a difference: b − a ≡ s (by `ring`), and s is not negative
pub by-sub : {a b : ℤ} (s : ℤ) → pos 0 ≤ℤ s → b -ℤ a ≡ s → a ≤ℤ b
by-sub {a} {b} s h e = omega (arith, zord, of- b a)

pub sub_nonneg : {a b : ℤ} → a ≤ℤ b → pos 0 ≤ℤ (b -ℤ a)
sub_nonneg {a} {b} h = omega (arith, zord, of- b a)

pub +ℤ-nonneg : {a b : ℤ} → pos 0 ≤ℤ a → pos 0 ≤ℤ b → pos 0 ≤ℤ (a +ℤ b)
+ℤ-nonneg {a} {b} h l = omega (arith, zord, of+ a b)
