use mathlib.Core.Path.{sym, ◌∙◌}
use Rattle.refusal.specs.RefusalLaws.{sized}
use Rattle.refusal.specs.Lengths.{bad_picture}
use Rattle.capi.specs.RefiningLaws.{many-size, many-length, many-count, any_first, any_second, any_third, none_of}
use Rattle.capi.proofs.refining.long_refusal.Goals as goal

-- The tests in the order of their numbers; 3 holds in any case.

pub returns-then-bad_size : goal.returns-then-bad_size
returns-then-bad_size c =
    let a = c.args in
    many-size a.w a.h a.target a.first a.second (sym c.bad_size.ensures ∙ c.if-bad_size.true)

pub bad_picture-requires : goal.bad_picture-requires
bad_picture-requires c =
    let a = c.args in
    let z = sized a.w a.h (sym c.bad_size.ensures ∙ c.if-bad_size.false) in
    (z.w_high, z.h_high)

pub returns-then-bad_picture : goal.returns-then-bad_picture
returns-then-bad_picture c =
    let a = c.args in
    many-length a.w a.h a.target a.first a.second (sym c.bad_size.ensures ∙ c.if-bad_size.false) (any_first (bad_picture a.w a.h a.target) (bad_picture a.w a.h a.first) (bad_picture a.w a.h a.second) (sym c.bad_picture.ensures ∙ c.if-bad_picture.true))

pub bad_picture-requires-2 : goal.bad_picture-requires-2
bad_picture-requires-2 c =
    let a = c.args in
    let z = sized a.w a.h (sym c.bad_size.ensures ∙ c.if-bad_size.false) in
    (z.w_high, z.h_high)

pub returns-then-bad_picture-2 : goal.returns-then-bad_picture-2
returns-then-bad_picture-2 c =
    let a = c.args in
    many-length a.w a.h a.target a.first a.second (sym c.bad_size.ensures ∙ c.if-bad_size.false) (any_second (bad_picture a.w a.h a.target) (bad_picture a.w a.h a.first) (bad_picture a.w a.h a.second) (sym c.bad_picture-2.ensures ∙ c.if-bad_picture-2.true))

pub bad_picture-requires-3 : goal.bad_picture-requires-3
bad_picture-requires-3 c =
    let a = c.args in
    let z = sized a.w a.h (sym c.bad_size.ensures ∙ c.if-bad_size.false) in
    (z.w_high, z.h_high)

pub returns-then-bad_picture-3 : goal.returns-then-bad_picture-3
returns-then-bad_picture-3 c =
    let a = c.args in
    many-length a.w a.h a.target a.first a.second (sym c.bad_size.ensures ∙ c.if-bad_size.false) (any_third (bad_picture a.w a.h a.target) (bad_picture a.w a.h a.first) (bad_picture a.w a.h a.second) (sym c.bad_picture-3.ensures ∙ c.if-bad_picture-3.true))

pub returns : goal.returns
returns c =
    let a = c.args in
    many-count a.w a.h a.target a.first a.second (sym c.bad_size.ensures ∙ c.if-bad_size.false) (none_of (bad_picture a.w a.h a.target) (bad_picture a.w a.h a.first) (bad_picture a.w a.h a.second) (sym c.bad_picture.ensures ∙ c.if-bad_picture.false) (sym c.bad_picture-2.ensures ∙ c.if-bad_picture-2.false) (sym c.bad_picture-3.ensures ∙ c.if-bad_picture-3.false))
