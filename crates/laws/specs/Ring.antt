-- Laws: the ring laws of ℤ that `lib.IntN` lacks: distributivity, associativity of the product.
use Rattle.std.specs.Prelude.{◌≡◌, refl, ℕ, zero, suc, ℤ, pos, negsuc, neg_ℤ, ◌+ℤ◌, ◌-ℤ◌, ◌*ℤ◌}
use Rattle.std.proofs.Common.{sym, ◌∙◌, ap, subst}
use Rattle.std.proofs.Math.Path.{◌≡⟨◌⟩◌, ◌∎}
use Rattle.std.proofs.Math.IntN.{suc_ℤ, pred_ℤ, +ℤ_comm, +ℤ_assoc, +ℤ_idl, +ℤ_idr, +ℤ_one, -ℤ_one, +ℤ_invl, +ℤ_invr, suc_ℤ-+ℤ, pred_ℤ-+ℤ, suc_ℤ-*ℤ, pred_ℤ-*ℤ, *ℤ_comm, zero-*ℤ, *ℤ-zero, ℤ_ind, neg_ℤ-+ℤ, neg_ℤ-neg_ℤ}

-- (x + y) + z = (x + z) + y
pub swap_r : (x y z : ℤ) → (x +ℤ y) +ℤ z ≡ (x +ℤ z) +ℤ y
swap_r x y z = +ℤ_assoc x y z ∙ ap (λ (t : ℤ). x +ℤ t) (+ℤ_comm y z) ∙ sym (+ℤ_assoc x z y)

dist_suc : (a b c : ℤ) → (a +ℤ b) *ℤ c ≡ a *ℤ c +ℤ b *ℤ c → (suc_ℤ a +ℤ b) *ℤ c ≡ suc_ℤ a *ℤ c +ℤ b *ℤ c
dist_suc a b c h =
    (suc_ℤ a +ℤ b) *ℤ c ≡⟨ ap (λ (t : ℤ). t *ℤ c) (suc_ℤ-+ℤ a b) ⟩
    suc_ℤ (a +ℤ b) *ℤ c ≡⟨ suc_ℤ-*ℤ (a +ℤ b) c ⟩
    (a +ℤ b) *ℤ c +ℤ c ≡⟨ ap (λ (t : ℤ). t +ℤ c) h ⟩
    (a *ℤ c +ℤ b *ℤ c) +ℤ c ≡⟨ swap_r (a *ℤ c) (b *ℤ c) c ⟩
    (a *ℤ c +ℤ c) +ℤ b *ℤ c ≡⟨ ap (λ (t : ℤ). t +ℤ b *ℤ c) (sym (suc_ℤ-*ℤ a c)) ⟩
    suc_ℤ a *ℤ c +ℤ b *ℤ c ∎

dist_pred : (a b c : ℤ) → (a +ℤ b) *ℤ c ≡ a *ℤ c +ℤ b *ℤ c → (pred_ℤ a +ℤ b) *ℤ c ≡ pred_ℤ a *ℤ c +ℤ b *ℤ c
dist_pred a b c h =
    (pred_ℤ a +ℤ b) *ℤ c ≡⟨ ap (λ (t : ℤ). t *ℤ c) (pred_ℤ-+ℤ a b) ⟩
    pred_ℤ (a +ℤ b) *ℤ c ≡⟨ pred_ℤ-*ℤ (a +ℤ b) c ⟩
    (a +ℤ b) *ℤ c +ℤ neg_ℤ c ≡⟨ ap (λ (t : ℤ). t +ℤ neg_ℤ c) h ⟩
    (a *ℤ c +ℤ b *ℤ c) +ℤ neg_ℤ c ≡⟨ swap_r (a *ℤ c) (b *ℤ c) (neg_ℤ c) ⟩
    (a *ℤ c +ℤ neg_ℤ c) +ℤ b *ℤ c ≡⟨ ap (λ (t : ℤ). t +ℤ b *ℤ c) (sym (pred_ℤ-*ℤ a c)) ⟩
    pred_ℤ a *ℤ c +ℤ b *ℤ c ∎

pub *ℤ-distr-r : (a b c : ℤ) → (a +ℤ b) *ℤ c ≡ a *ℤ c +ℤ b *ℤ c
*ℤ-distr-r a b c = ℤ_ind (λ (k : ℤ). (k +ℤ b) *ℤ c ≡ k *ℤ c +ℤ b *ℤ c)
    (ap (λ (t : ℤ). t *ℤ c) (+ℤ_idl b) ∙ sym (+ℤ_idl (b *ℤ c)) ∙ ap (λ (t : ℤ). t +ℤ b *ℤ c) (sym (zero-*ℤ c)))
    (λ n h. subst (λ (k : ℤ). (k +ℤ b) *ℤ c ≡ k *ℤ c +ℤ b *ℤ c) (sym (+ℤ_one (pos n))) (dist_suc (pos n) b c h))
    (λ n h. subst (λ (k : ℤ). (k +ℤ b) *ℤ c ≡ k *ℤ c +ℤ b *ℤ c) (sym (-ℤ_one (neg_ℤ (pos n)))) (dist_pred (neg_ℤ (pos n)) b c h))
    a

pub *ℤ-distr-l : (a b c : ℤ) → a *ℤ (b +ℤ c) ≡ a *ℤ b +ℤ a *ℤ c
*ℤ-distr-l a b c = *ℤ_comm a (b +ℤ c) ∙ *ℤ-distr-r b c a ∙ ap (λ (t : ℤ). t +ℤ c *ℤ a) (*ℤ_comm b a) ∙ ap (λ (t : ℤ). a *ℤ b +ℤ t) (*ℤ_comm c a)

-- a + b = 0 makes b the negation of a
pub neg_unique : (a b : ℤ) → a +ℤ b ≡ pos 0 → b ≡ neg_ℤ a
neg_unique a b h =
    b ≡⟨ sym (+ℤ_idl b) ⟩
    pos 0 +ℤ b ≡⟨ ap (λ (t : ℤ). t +ℤ b) (sym (+ℤ_invl a)) ⟩
    (neg_ℤ a +ℤ a) +ℤ b ≡⟨ +ℤ_assoc (neg_ℤ a) a b ⟩
    neg_ℤ a +ℤ (a +ℤ b) ≡⟨ ap (λ (t : ℤ). neg_ℤ a +ℤ t) h ⟩
    neg_ℤ a +ℤ pos 0 ≡⟨ +ℤ_idr (neg_ℤ a) ⟩
    neg_ℤ a ∎

pub neg-*ℤ : (a b : ℤ) → neg_ℤ a *ℤ b ≡ neg_ℤ (a *ℤ b)
neg-*ℤ a b = neg_unique (a *ℤ b) (neg_ℤ a *ℤ b) (sym (*ℤ-distr-r a (neg_ℤ a) b) ∙ ap (λ (t : ℤ). t *ℤ b) (+ℤ_invr a) ∙ zero-*ℤ b)

pub *ℤ-neg : (a b : ℤ) → a *ℤ neg_ℤ b ≡ neg_ℤ (a *ℤ b)
*ℤ-neg a b = *ℤ_comm a (neg_ℤ b) ∙ neg-*ℤ b a ∙ ap neg_ℤ (*ℤ_comm b a)

assoc_suc : (a b c : ℤ) → (a *ℤ b) *ℤ c ≡ a *ℤ (b *ℤ c) → (suc_ℤ a *ℤ b) *ℤ c ≡ suc_ℤ a *ℤ (b *ℤ c)
assoc_suc a b c h = ap (λ (t : ℤ). t *ℤ c) (suc_ℤ-*ℤ a b) ∙ *ℤ-distr-r (a *ℤ b) b c ∙ ap (λ (t : ℤ). t +ℤ b *ℤ c) h ∙ sym (suc_ℤ-*ℤ a (b *ℤ c))

assoc_pred : (a b c : ℤ) → (a *ℤ b) *ℤ c ≡ a *ℤ (b *ℤ c) → (pred_ℤ a *ℤ b) *ℤ c ≡ pred_ℤ a *ℤ (b *ℤ c)
assoc_pred a b c h = ap (λ (t : ℤ). t *ℤ c) (pred_ℤ-*ℤ a b) ∙ *ℤ-distr-r (a *ℤ b) (neg_ℤ b) c ∙ ap (λ (t : ℤ). t +ℤ neg_ℤ b *ℤ c) h ∙ ap (λ (t : ℤ). a *ℤ (b *ℤ c) +ℤ t) (neg-*ℤ b c) ∙ sym (pred_ℤ-*ℤ a (b *ℤ c))

pub *ℤ-assoc : (a b c : ℤ) → (a *ℤ b) *ℤ c ≡ a *ℤ (b *ℤ c)
*ℤ-assoc a b c = ℤ_ind (λ (k : ℤ). (k *ℤ b) *ℤ c ≡ k *ℤ (b *ℤ c))
    (ap (λ (t : ℤ). t *ℤ c) (zero-*ℤ b) ∙ zero-*ℤ c ∙ sym (zero-*ℤ (b *ℤ c)))
    (λ n h. subst (λ (k : ℤ). (k *ℤ b) *ℤ c ≡ k *ℤ (b *ℤ c)) (sym (+ℤ_one (pos n))) (assoc_suc (pos n) b c h))
    (λ n h. subst (λ (k : ℤ). (k *ℤ b) *ℤ c ≡ k *ℤ (b *ℤ c)) (sym (-ℤ_one (neg_ℤ (pos n)))) (assoc_pred (neg_ℤ (pos n)) b c h))
    a
