-- Rules: document 01, "Sizes and refusal numbers". If several hold, the lowest number among 1 to 7 is given; 0 is done.
use Rattle.std.specs.Prelude.{◌≡◌, Bool, ◌&&◌, ◌||◌, cond, List, [], ◌∷◌, ℕ, ◌≤◌, eqb, ltb, ℤ, pos, negsuc}
use Rattle.std.specs.Int.Signed.{lt_z}

-- a row of the table: its number, and whether it holds
pub record Test : Type 0 where
  pub number : ℕ
  pub holds : Bool

-- the lowest number that holds, in whatever order the tests are listed; 0 if none does
unfoldable pub lowest : List Test → ℕ
lowest [] = 0
lowest (t ∷ r) =
    cond (t.holds && (eqb (lowest r) 0 || ltb t.number (lowest r))) t.number (lowest r)

-- the table's names
abbrev pub size_if : Bool → Test
size_if b = record { number = 1; holds = b }

abbrev pub length_if : Bool → Test
length_if b = record { number = 2; holds = b }

abbrev pub count_if : Bool → Test
count_if b = record { number = 3; holds = b }

abbrev pub place_if : Bool → Test
place_if b = record { number = 4; holds = b }

abbrev pub opacity_if : Bool → Test
opacity_if b = record { number = 5; holds = b }

abbrev pub colour_if : Bool → Test
colour_if b = record { number = 6; holds = b }

abbrev pub pixel_if : Bool → Test
pixel_if b = record { number = 7; holds = b }

-- w or h outside 1..256
unfoldable pub bad_size : ℕ → ℕ → Bool
bad_size w h = ltb w 1 || ltb 256 w || ltb h 1 || ltb 256 h

-- a coordinate or radius outside -8191..8191
unfoldable pub bad_place : ℤ → Bool
bad_place z = lt_z z (negsuc 8190) || lt_z (pos 8191) z

-- what the work behind the tests rests on: sizes that passed
pub record Sized (w h : ℕ) : Type 0 where
  pub w_low : 1 ≤ w
  pub w_high : w ≤ 256
  pub h_low : 1 ≤ h
  pub h_high : h ≤ 256

-- what the two functions promise
abbrev pub BadSizeSays : ℕ → ℕ → Bool → Type 0
BadSizeSays w h r = r ≡ bad_size w h

abbrev pub BadPlaceSays : ℤ → Bool → Type 0
BadPlaceSays z r = r ≡ bad_place z
