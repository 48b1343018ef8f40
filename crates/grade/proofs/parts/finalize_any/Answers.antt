use mathlib.Core.Path.{◌≡◌, ◌∙◌}
use Prim.Native.Nat.{ℕ}
use lib.Ieee.{Float}
use Rattle.laws.specs.F64.{◌⊗◌}
use Rattle.sums.specs.Sums.{channel}
use Rattle.grade.specs.Finalize.{colour_of, colour_at}
use Rattle.grade.specs.FinalizeLaws.{counted_steps}
use Rattle.grade.specs.PartLaws.{parted_colour}
use Rattle.grade.proofs.parts.finalize_any.Goals as goal
use Rattle.grade.proofs.parts.finalize_any.Goals.{After-colour-blue}

-- `grade::parts::finalize_any` meets its contract: its steps are the law's. A widened colour is the colour itself.

-- the colours are the rule's
module _ (c : After-colour-blue) where
  step : (ch : ℕ) (t v p : Float) → t ≡ channel c.args.s.s_t ch → v ≡ channel c.args.s.s_c ch → p ≡ colour_of t v c.args.m (c.args.a ⊗ c.args.n)
      → p ≡ colour_at c.args.s c.args.a ch
  step ch t v p ht hv h =
      let x = c.args in
      parted_colour x.s x.a x.m x.n c.requires.opacity.1 c.requires.parts.pixels ch t v ht hv p h

  colours : (c.colour-red.result ≡ colour_at c.args.s c.args.a 0)
      × (c.colour-green.result ≡ colour_at c.args.s c.args.a 1)
      × (c.colour-blue.result ≡ colour_at c.args.s c.args.a 2)
  colours =
      let d = c.requires.parts in (
        step 0 _ _ _ d.target.0 d.canvas.0 c.colour-red.ensures,
        step 1 _ _ _ d.target.1 d.canvas.1 c.colour-green.ensures,
        step 2 _ _ _ d.target.2 d.canvas.2 c.colour-blue.ensures,
      )

pub returns : goal.returns
returns c =
    let x = c.args in
    counted_steps x.s x.opacity x.a c.all_drawn-after.result x.before c.narrow.result x.count c.requires.opacity.0 _ _ _
    c.requires.some (colours (goal.at.returns c).After-colour-blue) c.all_drawn-after.ensures c.requires.before c.narrow.ensures

pub all_drawn-after-requires : goal.all_drawn-after-requires
all_drawn-after-requires c =
    let h = colours (goal.at.all_drawn-after-requires c).After-colour-blue in
    record { parts = c.requires.parts; rest = c.requires.opacity.1; colours = (c.widen.ensures ∙ h.0, c.widen-2.ensures ∙ h.1, c.widen-3.ensures ∙ h.2) }
