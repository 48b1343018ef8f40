-- Laws: bounds of signed integers that compose: `Bounded n z` says |z| ≤ n. A record, so that n and z are inferred from a proof of it.
--     w+ w- w* wneg      the bound of an operation's result, from its operands'
--     wfits tt h         z fits a signed type, where n is below half its range (a comparison that computes)
--     rd w tt h          what is read back from a local that holds z is z
-- and, for an expression of the source, `Is t z n`: t, as a need shows it, is z, which is within n.
--     ldw w tt h, ld f h, ldr f e h      a parameter that its contract bounds; one with its range; a call's result
--     lit z, unsigned w x n h tt, cast w tt i      a literal; an unsigned number cast to a signed type; a cast between signed types
--     is+ is- is*        an operation whose result is held in a temporary; `tt` is that the bound fits
--     fits+ fits- fits* fits-as  the need of that operation, and of a cast
--     arg tt i           a callee's `Bounded N`, asked of an argument
use Rattle.std.specs.Prelude.{◌≡◌, refl, ℕ, zero, suc, pred, ◌+◌, ◌*◌, ◌-◌, ◌^◌, ◌≤◌, ◌<◌, ◌<ℤ◌, T, leb, ltb, ℤ, pos, negsuc, neg_ℤ, ◌+ℤ◌, ◌-ℤ◌, ◌*ℤ◌, nat_abs}
use Rattle.std.proofs.Common.{sym, ◌∙◌, ap, ap₂, subst, arith, le_trans, div-le_self, lt_of_le_of_lt, ltb→lt, leb→le, to_z-of_z}
use Rattle.std.specs.Int.{Width, w8, w16, w32, w64}
use mir.Val.{SFits, hbits, to_z, of_z}
use Rattle.std.proofs.Math.Facts.{to_z_pos}
use Rattle.laws.specs.Bound.{Bounded}
use Rattle.laws.specs.Parts.{P, N, P-neg, N-neg}
use Rattle.laws.specs.Quotient.{floor_z, ceil_z}
use Rattle.laws.specs.Fit.{of_abs, of_mag, fits-abs, abs+, abs-, abs*}

pub w+ : {A B : ℕ} {a b : ℤ} → Bounded A a → Bounded B b → Bounded (A + B) (a +ℤ b)
w+ {A} {B} {a} {b} h l = record { within = abs+ a b A B h.within l.within }

pub w- : {A B : ℕ} {a b : ℤ} → Bounded A a → Bounded B b → Bounded (A + B) (a -ℤ b)
w- {A} {B} {a} {b} h l = record { within = abs- a b A B h.within l.within }

pub w* : {A B : ℕ} {a b : ℤ} → Bounded A a → Bounded B b → Bounded (A * B) (a *ℤ b)
w* {A} {B} {a} {b} h l = record { within = abs* a b A B h.within l.within }

pub wneg : {A : ℕ} {a : ℤ} → Bounded A a → Bounded A (neg_ℤ a)
wneg {A} {a} h = record { within = omega (arith, h.within, of_abs a, of_abs (neg_ℤ a), P-neg a, N-neg a) }

pub wle : {A B : ℕ} {a : ℤ} → T (leb A B) → Bounded A a → Bounded B a
wle {A} {B} t h = record { within = le_trans h.within (leb→le A B t) }

pub weq : {A : ℕ} {a b : ℤ} → b ≡ a → Bounded A a → Bounded A b
weq {A} e h = subst (λ (z : ℤ). Bounded A z) (sym e) h

pub wfits : {w : Width} {n : ℕ} {z : ℤ} → T (ltb n (2 ^ hbits w)) → Bounded n z → SFits w z
wfits {w} {n} {z} t h = fits-abs z (omega (arith, ltb→lt n (2 ^ hbits w) t, h.within))

-- every number of a type, as a bound
pub w_of : {w : Width} {z : ℤ} → SFits w z → Bounded (2 ^ hbits w) z
w_of {w} {z} f = record { within = omega (arith, f.sfits, of_abs z, of_mag z) }

pub rd : (w : Width) {n : ℕ} {z : ℤ} → T (ltb n (2 ^ hbits w)) → Bounded n z → to_z w (of_z w z) ≡ z
rd w t h = to_z-of_z (wfits t h)

-- ---- expressions
pub record Is (t z : ℤ) (n : ℕ) : Type 0 where
  pub is : t ≡ z
  pub bound : Bounded n z

pub ld : {w : Width} {z : ℤ} {n : ℕ} → SFits w z → Bounded n z → Is (to_z w (of_z w z)) z n
ld f h = record { is = to_z-of_z f; bound = h }

-- a call's result r, with what it ensures
pub ldr : {w : Width} {r z : ℤ} {n : ℕ} → SFits w r → r ≡ z → Bounded n z → Is (to_z w (of_z w r)) z n
ldr f e h = record { is = to_z-of_z f ∙ e; bound = h }

pub lit : (z : ℤ) → Is z z (nat_abs z)
lit z = record { is = refl; bound = record { within = omega arith } }

keep : (w : Width) (t z : ℤ) (n : ℕ) → t ≡ z → Bounded n z → T (ltb n (2 ^ hbits w)) → Is (to_z w (of_z w t)) z n
keep w t z n e h q = record { is = ap (λ (x : ℤ). to_z w (of_z w x)) e ∙ rd w q h; bound = h }

-- a cast to a signed type
pub cast : (w : Width) {t z : ℤ} {n : ℕ} → T (ltb n (2 ^ hbits w)) → Is t z n → Is (to_z w (of_z w t)) z n
cast w {t} {z} {n} q i = keep w t z n i.is i.bound q

pub fits_as : {w : Width} {t z : ℤ} {n : ℕ} → T (ltb n (2 ^ hbits w)) → Is t z n → SFits w t
fits_as {w} q i = subst (λ (x : ℤ). SFits w x) (sym i.is) (wfits q i.bound)

module _ {t u y z : ℤ} {m n : ℕ} (a : Is t y m) (b : Is u z n) where
  e+ : Is (t +ℤ u) (y +ℤ z) (m + n)
  e+ = record { is = ap₂ (λ (p q : ℤ). p +ℤ q) a.is b.is; bound = w+ a.bound b.bound }

  e- : Is (t -ℤ u) (y -ℤ z) (m + n)
  e- = record { is = ap₂ (λ (p q : ℤ). p -ℤ q) a.is b.is; bound = w- a.bound b.bound }

  e* : Is (t *ℤ u) (y *ℤ z) (m * n)
  e* = record { is = ap₂ (λ (p q : ℤ). p *ℤ q) a.is b.is; bound = w* a.bound b.bound }

pub is+ : (w : Width) {t u y z : ℤ} {m n : ℕ} → T (ltb (m + n) (2 ^ hbits w)) → Is t y m → Is u z n → Is (to_z w (of_z w (t +ℤ u))) (y +ℤ z) (m + n)
is+ w q a b = cast w q (e+ a b)

pub is- : (w : Width) {t u y z : ℤ} {m n : ℕ} → T (ltb (m + n) (2 ^ hbits w)) → Is t y m → Is u z n → Is (to_z w (of_z w (t -ℤ u))) (y -ℤ z) (m + n)
is- w q a b = cast w q (e- a b)

pub is* : (w : Width) {t u y z : ℤ} {m n : ℕ} → T (ltb (m * n) (2 ^ hbits w)) → Is t y m → Is u z n → Is (to_z w (of_z w (t *ℤ u))) (y *ℤ z) (m * n)
is* w q a b = cast w q (e* a b)

pub fits+ : {w : Width} {t u y z : ℤ} {m n : ℕ} → T (ltb (m + n) (2 ^ hbits w)) → Is t y m → Is u z n → SFits w (t +ℤ u)
fits+ q a b = fits_as q (e+ a b)

pub fits- : {w : Width} {t u y z : ℤ} {m n : ℕ} → T (ltb (m + n) (2 ^ hbits w)) → Is t y m → Is u z n → SFits w (t -ℤ u)
fits- q a b = fits_as q (e- a b)

pub fits* : {w : Width} {t u y z : ℤ} {m n : ℕ} → T (ltb (m * n) (2 ^ hbits w)) → Is t y m → Is u z n → SFits w (t *ℤ u)
fits* q a b = fits_as q (e* a b)

-- ---- a quotient is no larger than its dividend
pub wfloor : {n : ℕ} {a : ℤ} (b : ℤ) → pos 0 <ℤ b → Bounded n a → Bounded n (floor_z a b)
wfloor {n} {a = pos a} (pos b) l h = record { within = le_trans (div-le_self a b) h.within }
wfloor {n} {a = negsuc a} (pos b) l h = record { within = omega (arith, h.within, div-le_self a b) }
wfloor {n} {a} (negsuc b) l h = absurd l.lt

pub wceil : {n : ℕ} {a : ℤ} (b : ℤ) → pos 0 <ℤ b → Bounded n a → Bounded n (ceil_z a b)
wceil b l h = wneg (wfloor b l (wneg h))

-- a value whose contract bounds it
pub ldw : (w : Width) {z : ℤ} {n : ℕ} → T (ltb n (2 ^ hbits w)) → Bounded n z → Is (to_z w (of_z w z)) z n
ldw w t h = ld (wfits t h) h

-- an unsigned number, cast to a wider signed type: its bits stand there as they are
pub unsigned : (w : Width) (x n : ℕ) → x ≤ n → T (ltb n (2 ^ hbits w)) → Is (to_z w x) (pos x) n
unsigned w x n h t = record { is = to_z_pos w (lt_of_le_of_lt h (ltb→lt n (2 ^ hbits w) t)); bound = record { within = h } }

pub wpos : (x n : ℕ) → x ≤ n → Bounded n (pos x)
wpos x n h = record { within = h }

-- a callee's bound on an argument, as the call shows it
pub arg : {t z : ℤ} {n N : ℕ} → T (leb n N) → Is t z n → Bounded N t
arg q i = weq i.is (wle q i.bound)

-- an expression whose term, value and bound need not be written: `abbrev d : tie.Start → Some`, `d s = some (is- ..)`, and `(d s).is` where it is used
pub record Some : Type 0 where
  pub t : ℤ
  pub z : ℤ
  pub n : ℕ
  pub is : Is t z n

abbrev pub some : {t z : ℤ} {n : ℕ} → Is t z n → Some
some {t} {z} {n} i = record { t = t; z = z; n = n; is = i }
