use mathlib.Core.Path.{◌≡◌, refl, ap}
use lib.IntN.{pos}
use lib.Ieee.{Float, binary32, of_bits, of_int, div, round}
use Rattle.session.specs.Session.{channel}
use Rattle.session.proofs.sheet.channel.Goals as goal

-- `session::sheet::channel` meets its contract: a division.

whole_is : of_bits binary32 1132396544 ≡ of_int binary32 (pos 255)
unfolding of_bits of_int round
whole_is = refl

pub returns : goal.returns
unfolding channel
returns c = ap (λ (x : Float). div binary32 (of_int binary32 (pos c.args.b)) x) whole_is
