-- Rules: document 01, "Picture: exactly h·w·3 f32" and "Table: exactly h·(w+1)·15 f64", by the number n of elements lent.
use Rattle.std.specs.Prelude.{◌≡◌, Bool, not, ℕ, ◌+◌, ◌*◌, eqb}

unfoldable pub bad_picture : ℕ → ℕ → ℕ → Bool
bad_picture w h n = not (eqb n (h * w * 3))

unfoldable pub bad_table : ℕ → ℕ → ℕ → Bool
bad_table w h n = not (eqb n (h * (w + 1) * 15))

-- what the two functions promise
abbrev pub BadPictureSays : ℕ → ℕ → ℕ → Bool → Type 0
BadPictureSays w h n r = r ≡ bad_picture w h n

abbrev pub BadTableSays : ℕ → ℕ → ℕ → Bool → Type 0
BadTableSays w h n r = r ≡ bad_table w h n
