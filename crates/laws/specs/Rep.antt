-- Laws: a representation of an integer expression as a difference of two natural expressions: `Rep z p n` says z = p − n.
-- Built along the expression, it turns an equation or an order of polynomials over ℤ into one of polynomials over ℕ, which `omega arith` multiplies out.
use Rattle.std.specs.Prelude.{◌≡◌, refl, ℕ, zero, suc, ◌+◌, ◌*◌, ◌-◌, ◌≤◌, ◌<◌, ℤ, pos, negsuc, neg_ℤ, ◌+ℤ◌, ◌-ℤ◌, ◌*ℤ◌, ◌≤ℤ◌, ◌<ℤ◌}
use Rattle.std.proofs.Common.{sym, ◌∙◌, ap, subst, arith, mul_comm, mul_assoc, add_comm, add_assoc}
use Rattle.laws.specs.Parts.{P, N, le→, lt→, eq→, le←, lt←, eq←, of+, of-, of*, P-neg, N-neg}

pub record Rep (z : ℤ) (p n : ℕ) : Type 0 where
  pub rep : P z + n ≡ p + N z

-- a variable, a literal
pub v : (z : ℤ) → Rep z (P z) (N z)
v z = record { rep = refl }

pub k : (n : ℕ) → Rep (pos n) n 0
k n = record { rep = refl }

pub km : (n : ℕ) → Rep (negsuc n) 0 (suc n)
km n = record { rep = refl }

infixl 60 ◌⊕◌ ◌⊖◌
infixl 70 ◌⊗◌
pub ◌⊕◌ : {a b : ℤ} {p n p' n' : ℕ} → Rep a p n → Rep b p' n' → Rep (a +ℤ b) (p + p') (n + n')
◌⊕◌ {a} {b} {p} {n} {p'} {n'} r s = record { rep = omega (arith, of+ a b, r.rep, s.rep) }

pub ◌⊖◌ : {a b : ℤ} {p n p' n' : ℕ} → Rep a p n → Rep b p' n' → Rep (a -ℤ b) (p + n') (n + p')
◌⊖◌ {a} {b} {p} {n} {p'} {n'} r s = record { rep = omega (arith, of- a b, r.rep, s.rep) }

pub ⊝ : {a : ℤ} {p n : ℕ} → Rep a p n → Rep (neg_ℤ a) n p
⊝ {a} {p} {n} r = record { rep = omega (arith, P-neg a, N-neg a, r.rep) }

-- the product: (A + n = p + B and C + n' = p' + D) multiply out
prod : (A B C D p n p' n' X Y : ℕ) → A + n ≡ p + B → C + n' ≡ p' + D → X + (A * D + B * C) ≡ (A * C + B * D) + Y → X + (p * n' + n * p') ≡ (p * p' + n * n') + Y
prod A B C D p n p' n' X Y e f g = omega (arith, ap (λ (t : ℕ). t * C) e, ap (λ (t : ℕ). t * D) e, ap (λ (t : ℕ). p * t) f, ap (λ (t : ℕ). n * t) f)

pub ◌⊗◌ : {a b : ℤ} {p n p' n' : ℕ} → Rep a p n → Rep b p' n' → Rep (a *ℤ b) (p * p' + n * n') (p * n' + n * p')
◌⊗◌ {a} {b} {p} {n} {p'} {n'} r s = record { rep = prod (P a) (N a) (P b) (N b) p n p' n' (P (a *ℤ b)) (N (a *ℤ b)) r.rep s.rep (of* a b) }

-- ---- to and from ℕ
pub rep_eq : {a b : ℤ} {p n p' n' : ℕ} → Rep a p n → Rep b p' n' → p + n' ≡ p' + n → a ≡ b
rep_eq {a} {b} r s h = eq← a b (omega (arith, r.rep, s.rep))

pub rep_le : {a b : ℤ} {p n p' n' : ℕ} → Rep a p n → Rep b p' n' → p + n' ≤ p' + n → a ≤ℤ b
rep_le {a} {b} r s h = le← a b (omega (arith, r.rep, s.rep))

pub rep_lt : {a b : ℤ} {p n p' n' : ℕ} → Rep a p n → Rep b p' n' → p + n' < p' + n → a <ℤ b
rep_lt {a} {b} r s h = lt← a b (omega (arith, r.rep, s.rep))

pub eq_rep : {a b : ℤ} {p n p' n' : ℕ} → Rep a p n → Rep b p' n' → a ≡ b → p + n' ≡ p' + n
eq_rep {a} {b} r s h = omega (arith, r.rep, s.rep, eq→ a b h)

pub le_rep : {a b : ℤ} {p n p' n' : ℕ} → Rep a p n → Rep b p' n' → a ≤ℤ b → p + n' ≤ p' + n
le_rep {a} {b} r s h = omega (arith, r.rep, s.rep, le→ a b h)

pub lt_rep : {a b : ℤ} {p n p' n' : ℕ} → Rep a p n → Rep b p' n' → a <ℤ b → p + n' < p' + n
lt_rep {a} {b} r s h = omega (arith, r.rep, s.rep, lt→ a b h)
