-- Laws: a reflective solver for polynomial identities over ℤ: `ring ρ l r tt : val ρ l ≡ val ρ r`, where l and r are expressions in the variables `x 0`, `x 1`, .. that ρ lists.
-- A polynomial is a list of terms, a coefficient with the sorted list of its variables. The last argument is a comparison that computes.
use Rattle.std.specs.Prelude.{◌≡◌, refl, Bool, true, false, List, [], ◌∷◌, ℕ, zero, suc, T, leb, eqb, get_or, ℤ, pos, negsuc, neg_ℤ, ◌+ℤ◌, ◌-ℤ◌, ◌*ℤ◌}
use Rattle.std.proofs.Common.{sym, ◌∙◌, ap, ap₂, subst, arith, eqb→eq}
use Rattle.std.proofs.Math.IntN.{+ℤ_idl, +ℤ_idr, +ℤ_assoc, +ℤ_comm, *ℤ_comm, zero-*ℤ, +ℤ_invr}
use Rattle.laws.specs.Parts.{eq←, eq→, of-}
use Rattle.laws.specs.Rep.{v, k, ◌⊕◌, ◌⊖◌, ◌⊗◌, ⊝, rep_eq, eq_rep}
use Rattle.laws.specs.Ring.{*ℤ-assoc, *ℤ-distr-r, *ℤ-distr-l, neg-*ℤ}

infixl 60 ◌⊞◌ ◌⊟◌
infixl 70 ◌⊠◌
pub data Ex : Type 0 where
  x : ℕ → Ex
  c : ℤ → Ex
  ◌⊞◌ : Ex → Ex → Ex
  ◌⊟◌ : Ex → Ex → Ex
  ◌⊠◌ : Ex → Ex → Ex
  ⊟' : Ex → Ex

abbrev pub val : List ℤ → Ex → ℤ
val ρ (x i) = get_or ρ i (pos 0)
val ρ (c z) = z
val ρ (a ⊞ b) = val ρ a +ℤ val ρ b
val ρ (a ⊟ b) = val ρ a -ℤ val ρ b
val ρ (a ⊠ b) = val ρ a *ℤ val ρ b
val ρ (⊟' a) = neg_ℤ (val ρ a)

-- ---- monomials: sorted lists of variables
abbrev pub ev_m : List ℤ → List ℕ → ℤ
ev_m ρ [] = pos 1
ev_m ρ (i ∷ m) = get_or ρ i (pos 0) *ℤ ev_m ρ m

abbrev ins_v : ℕ → List ℕ → List ℕ
ins_v i [] = i ∷ []
ins_v i (j ∷ m) = elim (leb i j) [ true ↦ i ∷ j ∷ m | false ↦ j ∷ ins_v i m ]

abbrev mul_m : List ℕ → List ℕ → List ℕ
mul_m [] n = n
mul_m (i ∷ m) n = ins_v i (mul_m m n)

abbrev eq_m : List ℕ → List ℕ → Bool
eq_m [] [] = true
eq_m [] (j ∷ n) = false
eq_m (i ∷ m) [] = false
eq_m (i ∷ m) (j ∷ n) = elim (eqb i j) [ true ↦ eq_m m n | false ↦ false ]

-- shorter first, then by the variables
abbrev le_m : List ℕ → List ℕ → Bool
le_m [] n = true
le_m (i ∷ m) [] = false
le_m (i ∷ m) (j ∷ n) = elim (eqb i j) [ true ↦ le_m m n | false ↦ leb i j ]

eq_m_sound : (m n : List ℕ) → T (eq_m m n) → m ≡ n
eq_m_sound [] [] t = refl
eq_m_sound [] (j ∷ n) t = absurd t
eq_m_sound (i ∷ m) [] t = absurd t
eq_m_sound (i ∷ m) (j ∷ n) t = go (eqb i j) (eqb→eq i j) t (eq_m_sound m n)
  where
    go : (b : Bool) → (T b → i ≡ j) → T (elim b as (λ _. Bool) [ true ↦ eq_m m n | false ↦ false ]) → (T (eq_m m n) → m ≡ n) → i ∷ m ≡ j ∷ n
    go true f u r = ap₂ (λ (a : ℕ) (l : List ℕ). a ∷ l) (f tt) (r u)
    go false f u r = absurd u

left_comm : (a b d : ℤ) → a *ℤ (b *ℤ d) ≡ b *ℤ (a *ℤ d)
left_comm a b d = sym (*ℤ-assoc a b d) ∙ ap (λ (t : ℤ). t *ℤ d) (*ℤ_comm a b) ∙ *ℤ-assoc b a d

ins_v_sound : (ρ : List ℤ) (i : ℕ) (m : List ℕ) → ev_m ρ (ins_v i m) ≡ get_or ρ i (pos 0) *ℤ ev_m ρ m
ins_v_sound ρ i [] = refl
ins_v_sound ρ i (j ∷ m) = go (leb i j) (ins_v_sound ρ i m)
  where
    go : (b : Bool) → ev_m ρ (ins_v i m) ≡ get_or ρ i (pos 0) *ℤ ev_m ρ m → ev_m ρ (elim b as (λ _. List ℕ) [ true ↦ i ∷ j ∷ m | false ↦ j ∷ ins_v i m ]) ≡ get_or ρ i (pos 0) *ℤ (get_or ρ j (pos 0) *ℤ ev_m ρ m)
    go true r = refl
    go false r = ap (λ (t : ℤ). get_or ρ j (pos 0) *ℤ t) r ∙ left_comm (get_or ρ j (pos 0)) (get_or ρ i (pos 0)) (ev_m ρ m)

one-*ℤ : (a : ℤ) → pos 1 *ℤ a ≡ a
one-*ℤ a = rep_eq (k 1 ⊗ v a) (v a) (omega arith)

mul_m_sound : (ρ : List ℤ) (m n : List ℕ) → ev_m ρ (mul_m m n) ≡ ev_m ρ m *ℤ ev_m ρ n
mul_m_sound ρ [] n = sym (one-*ℤ (ev_m ρ n))
mul_m_sound ρ (i ∷ m) n = ins_v_sound ρ i (mul_m m n) ∙ ap (λ (t : ℤ). get_or ρ i (pos 0) *ℤ t) (mul_m_sound ρ m n) ∙ sym (*ℤ-assoc (get_or ρ i (pos 0)) (ev_m ρ m) (ev_m ρ n))

-- ---- polynomials
pub data Poly : Type 0 where
  nil : Poly
  term : ℤ → List ℕ → Poly → Poly

abbrev pub ev_p : List ℤ → Poly → ℤ
ev_p ρ nil = pos 0
ev_p ρ (term a m p) = a *ℤ ev_m ρ m +ℤ ev_p ρ p

abbrev ins_t : ℤ → List ℕ → Poly → Poly
ins_t a m nil = term a m nil
ins_t a m (term b n p) = elim (eq_m m n) [ true ↦ term (a +ℤ b) n p | false ↦ elim (le_m m n) [ true ↦ term a m (term b n p) | false ↦ term b n (ins_t a m p) ] ]

abbrev add_p : Poly → Poly → Poly
add_p nil q = q
add_p (term a m p) q = ins_t a m (add_p p q)

abbrev scale : ℤ → List ℕ → Poly → Poly
scale a m nil = nil
scale a m (term b n p) = ins_t (a *ℤ b) (mul_m m n) (scale a m p)

abbrev mul_p : Poly → Poly → Poly
mul_p nil q = nil
mul_p (term a m p) q = add_p (scale a m q) (mul_p p q)

abbrev neg_p : Poly → Poly
neg_p nil = nil
neg_p (term a m p) = term (neg_ℤ a) m (neg_p p)

abbrev pub norm : Ex → Poly
norm (x i) = term (pos 1) (i ∷ []) nil
norm (c z) = term z [] nil
norm (a ⊞ b) = add_p (norm a) (norm b)
norm (a ⊟ b) = add_p (norm a) (neg_p (norm b))
norm (a ⊠ b) = mul_p (norm a) (norm b)
norm (⊟' a) = neg_p (norm a)

ins_t_sound : (ρ : List ℤ) (a : ℤ) (m : List ℕ) (p : Poly) → ev_p ρ (ins_t a m p) ≡ a *ℤ ev_m ρ m +ℤ ev_p ρ p
ins_t_sound ρ a m nil = refl
ins_t_sound ρ a m (term b n p) = go (eq_m m n) (eq_m_sound m n) (le_m m n) (ins_t_sound ρ a m p)
  where
    same : m ≡ n → (a +ℤ b) *ℤ ev_m ρ n +ℤ ev_p ρ p ≡ a *ℤ ev_m ρ m +ℤ (b *ℤ ev_m ρ n +ℤ ev_p ρ p)
    same e = ap (λ (t : ℤ). t +ℤ ev_p ρ p) (*ℤ-distr-r a b (ev_m ρ n)) ∙ +ℤ_assoc (a *ℤ ev_m ρ n) (b *ℤ ev_m ρ n) (ev_p ρ p) ∙ ap (λ (l : List ℕ). a *ℤ ev_m ρ l +ℤ (b *ℤ ev_m ρ n +ℤ ev_p ρ p)) (sym e)

    next : ev_p ρ (ins_t a m p) ≡ a *ℤ ev_m ρ m +ℤ ev_p ρ p → b *ℤ ev_m ρ n +ℤ ev_p ρ (ins_t a m p) ≡ a *ℤ ev_m ρ m +ℤ (b *ℤ ev_m ρ n +ℤ ev_p ρ p)
    next r = ap (λ (t : ℤ). b *ℤ ev_m ρ n +ℤ t) r ∙ rep_eq (v (b *ℤ ev_m ρ n) ⊕ (v (a *ℤ ev_m ρ m) ⊕ v (ev_p ρ p))) (v (a *ℤ ev_m ρ m) ⊕ (v (b *ℤ ev_m ρ n) ⊕ v (ev_p ρ p))) (omega arith)

    go : (e : Bool) → (T e → m ≡ n) → (l : Bool) → ev_p ρ (ins_t a m p) ≡ a *ℤ ev_m ρ m +ℤ ev_p ρ p
        → ev_p ρ (elim e as (λ _. Poly) [ true ↦ term (a +ℤ b) n p | false ↦ elim l as (λ _. Poly) [ true ↦ term a m (term b n p) | false ↦ term b n (ins_t a m p) ] ]) ≡ a *ℤ ev_m ρ m +ℤ (b *ℤ ev_m ρ n +ℤ ev_p ρ p)
    go true f l r = same (f tt)
    go false f true r = refl
    go false f false r = next r

add_p_sound : (ρ : List ℤ) (p q : Poly) → ev_p ρ (add_p p q) ≡ ev_p ρ p +ℤ ev_p ρ q
add_p_sound ρ nil q = sym (+ℤ_idl (ev_p ρ q))
add_p_sound ρ (term a m p) q = ins_t_sound ρ a m (add_p p q) ∙ ap (λ (t : ℤ). a *ℤ ev_m ρ m +ℤ t) (add_p_sound ρ p q) ∙ sym (+ℤ_assoc (a *ℤ ev_m ρ m) (ev_p ρ p) (ev_p ρ q))

scale_sound : (ρ : List ℤ) (a : ℤ) (m : List ℕ) (p : Poly) → ev_p ρ (scale a m p) ≡ (a *ℤ ev_m ρ m) *ℤ ev_p ρ p
scale_sound ρ a m nil = sym (*ℤ_comm (a *ℤ ev_m ρ m) (pos 0) ∙ zero-*ℤ (a *ℤ ev_m ρ m))
scale_sound ρ a m (term b n p) =
    ins_t_sound ρ (a *ℤ b) (mul_m m n) (scale a m p)
    ∙ ap₂ (λ (s t : ℤ). (a *ℤ b) *ℤ s +ℤ t) (mul_m_sound ρ m n) (scale_sound ρ a m p)
    ∙ ap (λ (t : ℤ). t +ℤ (a *ℤ ev_m ρ m) *ℤ ev_p ρ p) (four a b (ev_m ρ m) (ev_m ρ n))
    ∙ sym (*ℤ-distr-l (a *ℤ ev_m ρ m) (b *ℤ ev_m ρ n) (ev_p ρ p))
  where
    four : (a b s t : ℤ) → (a *ℤ b) *ℤ (s *ℤ t) ≡ (a *ℤ s) *ℤ (b *ℤ t)
    four a b s t = *ℤ-assoc a b (s *ℤ t) ∙ ap (λ (u : ℤ). a *ℤ u) (left_comm b s t) ∙ sym (*ℤ-assoc a s (b *ℤ t))

mul_p_sound : (ρ : List ℤ) (p q : Poly) → ev_p ρ (mul_p p q) ≡ ev_p ρ p *ℤ ev_p ρ q
mul_p_sound ρ nil q = sym (zero-*ℤ (ev_p ρ q))
mul_p_sound ρ (term a m p) q = add_p_sound ρ (scale a m q) (mul_p p q) ∙ ap₂ (λ (s t : ℤ). s +ℤ t) (scale_sound ρ a m q) (mul_p_sound ρ p q) ∙ sym (*ℤ-distr-r (a *ℤ ev_m ρ m) (ev_p ρ p) (ev_p ρ q))

neg_p_sound : (ρ : List ℤ) (p : Poly) → ev_p ρ (neg_p p) ≡ neg_ℤ (ev_p ρ p)
neg_p_sound ρ nil = refl
neg_p_sound ρ (term a m p) = ap₂ (λ (s t : ℤ). s +ℤ t) (neg-*ℤ a (ev_m ρ m)) (neg_p_sound ρ p) ∙ rep_eq (⊝ (v (a *ℤ ev_m ρ m)) ⊕ ⊝ (v (ev_p ρ p))) (⊝ (v (a *ℤ ev_m ρ m) ⊕ v (ev_p ρ p))) (omega arith)

pub norm_sound : (ρ : List ℤ) (e : Ex) → ev_p ρ (norm e) ≡ val ρ e
norm_sound ρ (x i) = rep_eq (k 1 ⊗ (v (get_or ρ i (pos 0)) ⊗ k 1) ⊕ k 0) (v (get_or ρ i (pos 0))) (omega arith)
norm_sound ρ (c z) = rep_eq (v z ⊗ k 1 ⊕ k 0) (v z) (omega arith)
norm_sound ρ (a ⊞ b) = add_p_sound ρ (norm a) (norm b) ∙ ap₂ (λ (s t : ℤ). s +ℤ t) (norm_sound ρ a) (norm_sound ρ b)
norm_sound ρ (a ⊟ b) = add_p_sound ρ (norm a) (neg_p (norm b)) ∙ ap₂ (λ (s t : ℤ). s +ℤ t) (norm_sound ρ a) (neg_p_sound ρ (norm b) ∙ ap neg_ℤ (norm_sound ρ b))
norm_sound ρ (a ⊠ b) = mul_p_sound ρ (norm a) (norm b) ∙ ap₂ (λ (s t : ℤ). s *ℤ t) (norm_sound ρ a) (norm_sound ρ b)
norm_sound ρ (⊟' a) = neg_p_sound ρ (norm a) ∙ ap neg_ℤ (norm_sound ρ a)

-- every coefficient is 0
abbrev is_z : ℤ → Bool
is_z (pos n) = eqb n 0
is_z (negsuc n) = false

is_z_sound : (z : ℤ) → T (is_z z) → z ≡ pos 0
is_z_sound (pos n) t = ap pos (eqb→eq n 0 t)
is_z_sound (negsuc n) t = absurd t

abbrev pub zero_p : Poly → Bool
zero_p nil = true
zero_p (term a m p) = elim (is_z a) [ true ↦ zero_p p | false ↦ false ]

zero_p_sound : (ρ : List ℤ) (p : Poly) → T (zero_p p) → ev_p ρ p ≡ pos 0
zero_p_sound ρ nil t = refl
zero_p_sound ρ (term a m p) t = go (is_z a) (is_z_sound a) t (zero_p_sound ρ p)
  where
    go : (b : Bool) → (T b → a ≡ pos 0) → T (elim b as (λ _. Bool) [ true ↦ zero_p p | false ↦ false ]) → (T (zero_p p) → ev_p ρ p ≡ pos 0) → a *ℤ ev_m ρ m +ℤ ev_p ρ p ≡ pos 0
    go true f u r = ap₂ (λ (s t : ℤ). s *ℤ ev_m ρ m +ℤ t) (f tt) (r u) ∙ +ℤ_idr (pos 0 *ℤ ev_m ρ m) ∙ zero-*ℤ (ev_m ρ m)
    go false f u r = absurd u

pub ring : (ρ : List ℤ) (l r : Ex) → T (zero_p (norm (l ⊟ r))) → val ρ l ≡ val ρ r
ring ρ l r t = same (val ρ l) (val ρ r) (sym (norm_sound ρ (l ⊟ r)) ∙ zero_p_sound ρ (norm (l ⊟ r)) t)
  where
    same : (a b : ℤ) → a -ℤ b ≡ pos 0 → a ≡ b
    same a b e = rep_eq (v a) (v b) (omega (arith, eq_rep (v a ⊖ v b) (k 0) e))
