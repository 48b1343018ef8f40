-- Laws: what every call keeps, any list of calls keeps; and a list of calls goes through a state after each of them.
use Rattle.std.specs.Prelude.{◌≡◌, refl, List, [], ◌∷◌, ◌++◌}
use Rattle.std.proofs.Common.{subst}
use Rattle.laws.specs.Calls.{Calls}

module _ {C S : Type 0} (Step : C → S → S → Type 0) (Good : S → Type 0) (keeps : (c : C) (s t : S) → Step c s t → Good s → Good t) where
  pub calls_keep : (cs : List C) (s t : S) → Calls Step cs s t → Good s → Good t
  calls_keep [] s t e g = subst Good e g
  calls_keep (c ∷ cs) s t e g = calls_keep cs e.0 t e.2 (keeps c s e.0 e.1 g)

-- the state between two lists of calls
pub calls_split : {C S : Type 0} (Step : C → S → S → Type 0) (cs ds : List C) (s t : S) → Calls Step (cs ++ ds) s t
    → (u : S) × Calls Step cs s u × Calls Step ds u t
calls_split Step [] ds s t e = (s, refl, e)
calls_split Step (c ∷ cs) ds s t e = let r = calls_split Step cs ds e.0 t e.2 in (r.0, (e.0, e.1, r.1), r.2)
