-- Rules: a list of calls, one after another, over any state and any step.
use Rattle.std.specs.Prelude.{◌≡◌, List, [], ◌∷◌}

module _ {C S : Type 0} (Step : C → S → S → Type 0) where
  -- from state s the calls lead to state t: each meets its promise from where the one before left off
  abbrev pub Calls : List C → S → S → Type 0
  Calls [] s t = s ≡ t
  Calls (c ∷ cs) s t = (u : S) × Step c s u × Calls cs u t
