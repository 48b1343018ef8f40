use mathlib.Core.Path.{refl}
use native.Mathlib.Omega.{arith}
use Rattle.frame.specs.FrameLaws.{no_bytes, no_first}
use Rattle.frame.specs.Frames.{DecodeSays}
use Rattle.frame.proofs.decode.Goals as goal

-- `frame::decode` meets its contract: no frame is empty, or begins with another byte.

pub returns-then-bytes-eq0 : goal.returns-then-bytes-eq0
returns-then-bytes-eq0 c = DecodeSays.refused (no_bytes c.args.bytes.now c.if-bytes-eq0.true) refl

pub returns-in_default : goal.returns-in_default
returns-in_default c = DecodeSays.refused (no_first c.args.bytes.now (λ e. omega arith) (λ e. omega arith) (λ e. omega arith) (λ e. omega arith)) refl

pub returns-in_default-2 : goal.returns-in_default-2
returns-in_default-2 c = DecodeSays.refused (no_first c.args.bytes.now (λ e. omega arith) (λ e. omega arith) (λ e. omega arith) (λ e. omega arith)) refl
