-- Rules: document 01, "Picture: exactly h·w·3 f32, rows top down, channels together", over any kind of value; and a picture recoloured where a test of pixels holds.
use Rattle.std.specs.Prelude.{Bool, cond, List, ℕ, zero, suc, ◌*◌, ◌/◌, ◌%◌}
use Rattle.laws.specs.Tab.{tab}
use Rattle.laws.specs.RowSums.{Picture}

module _ {P : Type 0} where
  -- a picture of w columns and h rows as a list: number i is of channel i % 3, row i / 3 / w and column i / 3 % w
  unfoldable pub list_of : ℕ → ℕ → Picture P → List P
  list_of w h p = tab (λ i. p (i % 3) (i / 3 / w) (i / 3 % w)) (h * w * 3)

  -- the value of a channel
  abbrev pub channel_of : P → P → P → ℕ → P
  channel_of red green blue zero = red
  channel_of red green blue (suc zero) = green
  channel_of red green blue (suc (suc ch)) = blue

  -- one colour in every pixel
  abbrev pub plain : P → P → P → Picture P
  plain red green blue ch y x = channel_of red green blue ch

  -- every channel of every pixel by its place: mixed where the test holds, and else as it was
  abbrev pub recoloured : (ℕ → ℕ → Bool) → (ℕ → P → P) → Picture P → Picture P
  recoloured test mix p ch y x = cond (test x y) (mix ch (p ch y x)) (p ch y x)
