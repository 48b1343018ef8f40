-- Laws: some elements of a list in their order, and one more at the end, kept or left out.
use Rattle.std.specs.Prelude.{List, [], ◌∷◌, ◌++◌}
use Rattle.laws.specs.InOrder.{InOrder, done, kept, left}

module _ {A : Type 0} where
  pub keep_last : {k l : List A} (x : A) → InOrder k l → InOrder (k ++ (x ∷ [])) (l ++ (x ∷ []))
  keep_last x done = kept done
  keep_last x (kept p) = kept (keep_last x p)
  keep_last x (left p) = left (keep_last x p)

  pub leave_last : {k l : List A} (x : A) → InOrder k l → InOrder k (l ++ (x ∷ []))
  leave_last x done = left done
  leave_last x (kept p) = kept (leave_last x p)
  leave_last x (left p) = left (leave_last x p)
