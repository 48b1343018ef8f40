-- Laws: ℤ read as pairs of naturals, so that `omega arith` proves facts of integers.
--     P z, N z      the positive and the negative part: z = P z − N z, and one of them is 0
--     le→ lt→ eq→   rules for omega's list: a hypothesis on ℤ as one on ℕ
--     le← lt← eq←   rules that turn a goal on ℤ to one on ℕ
--     of+ of- of* ofneg     what P and N of an operation's result are: a fact for omega's list, for each operation in what is to be shown
use Rattle.std.specs.Prelude.{◌≡◌, refl, Bool, true, false, not, cond, ◌⊎◌, ℕ, zero, suc, ◌+◌, ◌*◌, ◌-◌, ◌≤◌, ◌<◌, min, T, ltb, leb, ℤ, pos, negsuc, neg_ℤ, ◌+ℤ◌, ◌-ℤ◌, ◌*ℤ◌, nat_abs, ◌≤ℤ◌, ◌<ℤ◌}
use Rattle.std.proofs.Common.{sym, ◌∙◌, ap, subst, inl, inr, arith, ltb→lt, nltb→le, leb→le, le→leb, lt→ltb}
use Rattle.std.proofs.Math.IntN.{sub_ℕ, pos-ne-negsuc}
use Rattle.std.specs.Int.Signed.{le_z, lt_z, mag}

abbrev pub P : ℤ → ℕ
P (pos n) = n
P (negsuc n) = 0

abbrev pub N : ℤ → ℕ
N (pos n) = 0
N (negsuc n) = suc n

-- one of the two is 0
pub one_zero : (z : ℤ) → min (P z) (N z) ≡ 0
one_zero (pos n) = omega arith
one_zero (negsuc n) = omega arith

-- ---- the order

le→' : (a b : ℤ) → T (le_z a b) → P a + N b ≤ P b + N a
le→' (pos a) (pos b) t = omega (arith, leb→le a b t)
le→' (pos a) (negsuc b) t = absurd t
le→' (negsuc a) (pos b) t = omega arith
le→' (negsuc a) (negsuc b) t = omega (arith, leb→le b a t)

pub le→ : (a b : ℤ) → a ≤ℤ b → P a + N b ≤ P b + N a
le→ a b h = le→' a b h.le

le←' : (a b : ℤ) → P a + N b ≤ P b + N a → T (le_z a b)
le←' (pos a) (pos b) h = le→leb a b (omega arith)
le←' (pos a) (negsuc b) h = absurd (omega arith)
le←' (negsuc a) (pos b) h = tt
le←' (negsuc a) (negsuc b) h = le→leb b a (omega arith)

pub le← : (a b : ℤ) → P a + N b ≤ P b + N a → a ≤ℤ b
le← a b h = record { le = le←' a b h }

lt→' : (a b : ℤ) → T (lt_z a b) → P a + N b < P b + N a
lt→' (pos a) (pos b) t = omega (arith, ltb→lt a b t)
lt→' (pos a) (negsuc b) t = absurd t
lt→' (negsuc a) (pos b) t = omega arith
lt→' (negsuc a) (negsuc b) t = omega (arith, ltb→lt b a t)

pub lt→ : (a b : ℤ) → a <ℤ b → P a + N b < P b + N a
lt→ a b h = lt→' a b h.lt

lt←' : (a b : ℤ) → P a + N b < P b + N a → T (lt_z a b)
lt←' (pos a) (pos b) h = lt→ltb a b (omega arith)
lt←' (pos a) (negsuc b) h = absurd (omega arith)
lt←' (negsuc a) (pos b) h = tt
lt←' (negsuc a) (negsuc b) h = lt→ltb b a (omega arith)

pub lt← : (a b : ℤ) → P a + N b < P b + N a → a <ℤ b
lt← a b h = record { lt = lt←' a b h }

pub eq→ : (a b : ℤ) → a ≡ b → P a + N b ≡ P b + N a
eq→ a b e = subst (λ (z : ℤ). P a + N z ≡ P z + N a) e refl

pub eq← : (a b : ℤ) → P a + N b ≡ P b + N a → a ≡ b
eq← (pos a) (pos b) h = ap pos (omega arith)
eq← (pos a) (negsuc b) h = absurd (omega arith)
eq← (negsuc a) (pos b) h = absurd (omega arith)
eq← (negsuc a) (negsuc b) h = ap negsuc (omega arith)

pub ruleset zord = (le→, lt→, eq→, le←, lt←, eq←)

-- ---- the operations

by_cond : (c : Bool) (x y : ℤ) (Q : ℤ → Type 0) → (T c → Q x) → (T (not c) → Q y) → Q (cond c x y)
by_cond true x y Q f g = f tt
by_cond false x y Q f g = g tt

pub of_sub : (a b : ℕ) → P (sub_ℕ a b) + b ≡ a + N (sub_ℕ a b)
of_sub a b = by_cond (ltb a b) (negsuc (b - suc a)) (pos (a - b)) (λ z. P z + b ≡ a + N z)
    (λ t. let h : a < b = ltb→lt a b t in omega arith) (λ t. let h : b ≤ a = nltb→le a b t in omega arith)

pub of+ : (a b : ℤ) → P (a +ℤ b) + (N a + N b) ≡ (P a + P b) + N (a +ℤ b)
of+ (pos a) (pos b) = omega arith
of+ (pos a) (negsuc b) = omega (arith, of_sub a (suc b))
of+ (negsuc a) (pos b) = omega (arith, of_sub b (suc a))
of+ (negsuc a) (negsuc b) = omega arith

pub P-neg : (a : ℤ) → P (neg_ℤ a) ≡ N a
P-neg (pos zero) = refl
P-neg (pos (suc n)) = refl
P-neg (negsuc n) = refl

pub N-neg : (a : ℤ) → N (neg_ℤ a) ≡ P a
N-neg (pos zero) = refl
N-neg (pos (suc n)) = refl
N-neg (negsuc n) = refl

pub of- : (a b : ℤ) → P (a -ℤ b) + (N a + P b) ≡ (P a + N b) + N (a -ℤ b)
of- a b = omega (arith, of+ a (neg_ℤ b), P-neg b, N-neg b)

pub of* : (a b : ℤ) → P (a *ℤ b) + (P a * N b + N a * P b) ≡ (P a * P b + N a * N b) + N (a *ℤ b)
of* (pos a) (pos b) = omega arith
of* (pos a) (negsuc b) = omega (arith, P-neg (pos (a * suc b)), N-neg (pos (a * suc b)))
of* (negsuc a) (pos b) = omega (arith, P-neg (pos (suc a * b)), N-neg (pos (suc a * b)))
of* (negsuc a) (negsuc b) = omega arith

-- ---- ranges
pub below_mag : (z : ℤ) (h : ℕ) → mag z < h → (P z < h) × (N z ≤ h)
below_mag (pos n) h q = omega arith
below_mag (negsuc n) h q = omega arith

pub mag_below : (z : ℤ) (h : ℕ) → P z < h → N z ≤ h → mag z < h
mag_below (pos n) h p q = p
mag_below (negsuc n) h p q = omega arith
