-- Laws: the error after is what is left and what is drawn over it; the steps of the code over a score's parts.
use Rattle.std.specs.Prelude.{◌≡◌, refl, true, ℕ, Float}
use Rattle.std.proofs.Common.{◌∙◌, ap}
use Rattle.std.specs.Float.Ieee.{lt}
use Rattle.laws.specs.F64.{◌⊕◌, ◌⊗◌}
use Rattle.float.specs.Within.{nought}
use Rattle.float.specs.Clamped.{clamped}
use Rattle.float.specs.Narrowed.{narrowed}
use Rattle.sums.specs.Sums.{channel}
use Rattle.sums.specs.declared.ShapeSums.{ShapeSums}
use Rattle.grade.specs.declared.parts.Parts.{Parts}
use Rattle.grade.specs.Finalize.{rest, over_channels, count_of, wanted_of, colour_of, error_after, colour_at, after_at}
use Rattle.grade.specs.FinalizeLaws.{colour_step, known_step}
use Rattle.grade.specs.Parts.{error_left, error_drawn, left_at, parts_of, Parted}

pub after_is_drawn : (t2 tc c2 t c a m p n : Float) → error_drawn (error_left t2 tc c2 m) t c a m p n ≡ error_after t2 tc c2 t c a m p n
unfolding error_left error_drawn error_after
after_is_drawn t2 tc c2 t c a m p n = refl

-- a channel's numbers
module _ (s : ShapeSums) (a m n : Float) (hm : m ≡ rest a) (hn : n ≡ count_of s) (ch : ℕ) (t c : Float) (ht : t ≡ channel s.s_t ch) (hc : c ≡ channel s.s_c ch) where
  pub parted_colour : (p : Float) → p ≡ colour_of t c m (a ⊗ n) → p ≡ colour_at s a ch
  parted_colour p h = colour_step s a m n hm hn p ch (rw (ht, hc) at h)

  pub parted_known : (p q w : Float) → lt nought (a ⊗ n) ≡ true → p ≡ narrowed q → q ≡ clamped w → w ≡ wanted_of t c m (a ⊗ n) → p ≡ colour_at s a ch
  parted_known p q w z hp hq hw = known_step s a m n hm hn p ch z (hp ∙ ap narrowed (hq ∙ ap clamped (rw (ht, hc) at hw)))

  parted-after : (l p e : Float) → l ≡ left_at s m ch → p ≡ colour_at s a ch → e ≡ error_drawn l t c a m p n → e ≡ after_at s a ch
  unfolding after_at
  parted-after l p e hl hp he = he ∙ simp (hl, after_is_drawn, ht, hc, hp, hm, hn)

pub drawn_steps : (s : ShapeSums) (a m n : Float) (k : Parts) (p0 p1 p2 e0 e1 e2 : Float) → m ≡ rest a → Parted s m n k
    → (p0 ≡ colour_at s a 0) × (p1 ≡ colour_at s a 1) × (p2 ≡ colour_at s a 2)
    → e0 ≡ error_drawn k.l0 k.t0 k.c0 a m p0 n → e1 ≡ error_drawn k.l1 k.t1 k.c1 a m p1 n → e2 ≡ error_drawn k.l2 k.t2 k.c2 a m p2 n
    → nought ⊕ e0 ⊕ e1 ⊕ e2 ≡ over_channels (after_at s a)
drawn_steps s a m n k p0 p1 p2 e0 e1 e2 hm d h h0 h1 h2 =
    let t = d.target in
    let c = d.canvas in
    let l = d.left in
    simp (
      parted-after s a m n hm d.pixels 0 k.t0 k.c0 t.0 c.0 k.l0 p0 e0 l.0 h.0 h0,
      parted-after s a m n hm d.pixels 1 k.t1 k.c1 t.1 c.1 k.l1 p1 e1 l.1 h.1 h1,
      parted-after s a m n hm d.pixels 2 k.t2 k.c2 t.2 c.2 k.l2 p2 e2 l.2 h.2 h2,
    )

-- where the errors are worked out from the m of an opacity
pub parted : (s : ShapeSums) (opacity m l0 l1 l2 : Float) → m ≡ rest opacity → l0 ≡ left_at s m 0 → l1 ≡ left_at s m 1 → l2 ≡ left_at s m 2
    → Parted s (rest opacity) (count_of s) (parts_of (channel s.s_t 0) (channel s.s_t 1) (channel s.s_t 2) (channel s.s_c 0) (channel s.s_c 1) (channel s.s_c 2) l0 l1 l2)
parted s opacity m l0 l1 l2 hm h0 h1 h2 = record {
  pixels = refl;
  target = (refl, refl, refl);
  canvas = (refl, refl, refl);
  left = (rw hm at h0, rw hm at h1, rw hm at h2);
}
