-- Laws: two answers that meet a promise are equal.
use Rattle.std.specs.Prelude.{◌≡◌, Float}
use Rattle.std.proofs.Common.{sym, ◌∙◌}
use Rattle.sums.specs.declared.ShapeSums.{ShapeSums}
use Rattle.sums.specs.Sums.{NewSays, PlusSays, MinusSays, PushSays, PushWideSays}

pub NewSays-unique : (r s : ShapeSums) → NewSays r → NewSays s → r ≡ s
NewSays-unique r s p q = p ∙ sym q

module _ (a b r s : ShapeSums) where
  pub PlusSays-unique : PlusSays a b r → PlusSays a b s → r ≡ s
  PlusSays-unique p q = p ∙ sym q

  pub MinusSays-unique : MinusSays a b r → MinusSays a b s → r ≡ s
  MinusSays-unique p q = p ∙ sym q

module _ (a : ShapeSums) (t0 t1 t2 c0 c1 c2 : Float) (r s : ShapeSums) where
  pub PushSays-unique : PushSays a t0 t1 t2 c0 c1 c2 r → PushSays a t0 t1 t2 c0 c1 c2 s → r ≡ s
  PushSays-unique p q = p ∙ sym q

  pub PushWideSays-unique : PushWideSays a t0 t1 t2 c0 c1 c2 r → PushWideSays a t0 t1 t2 c0 c1 c2 s → r ≡ s
  PushWideSays-unique p q = p ∙ sym q
