-- Laws: what a passed test of a length gives.
use Rattle.std.specs.Prelude.{◌≡◌, Bool, false, ℕ, ◌+◌, ◌*◌, eqb}
use Rattle.std.proofs.Common.{sym, ◌∙◌}
use borrow.Author.Tests.{eqb-true, not-false}
use Rattle.refusal.specs.Lengths.{bad_picture, bad_table, BadPictureSays, BadTableSays}

module _ (w h n : ℕ) where
  pub BadPictureSays-unique : (r s : Bool) → BadPictureSays w h n r → BadPictureSays w h n s → r ≡ s
  BadPictureSays-unique r s p q = p ∙ sym q

  pub BadTableSays-unique : (r s : Bool) → BadTableSays w h n r → BadTableSays w h n s → r ≡ s
  BadTableSays-unique r s p q = p ∙ sym q

  pub picture_length : bad_picture w h n ≡ false → n ≡ h * w * 3
  unfolding bad_picture
  picture_length e = eqb-true n (h * w * 3) (not-false (eqb n (h * w * 3)) e)

  pub table-length : bad_table w h n ≡ false → n ≡ h * (w + 1) * 15
  unfolding bad_table
  table-length e = eqb-true n (h * (w + 1) * 15) (not-false (eqb n (h * (w + 1) * 15)) e)
