use mathlib.Core.Path.{sym, ◌∙◌}
use mathlib.Core.Bool.{true, false}
use native.Mathlib.Omega.{arith}
use lib.ListN.{length}
use Rattle.laws.specs.TabLaws.{length-tab}
use Rattle.crossing.specs.Crossed.{shape_at, offer_at, shapes_of, offers_of}
use Rattle.capi.specs.RefiningLaws.{untouched, renumbered, shapeless-some, many-some, many-shapes, many_offers, number-list, number_offers, number_good, fits_of}
use Rattle.capi.proofs.refining.sillbadger_refine.Goals as goal

-- Slices that are no lists, lists that are too long, and the rest.

pub returns-then-bad_list : goal.returns-then-bad_list
returns-then-bad_list c =
    let a = c.args in
    let k = c.no_shape in
    let n = c.number in
    untouched _ n.result c.refused.result (n.ensures ∙ k.ensures ∙ number-list a.w a.h a.red a.green a.blue a.sizes.now a.places.now a.paints.now a.offered_sizes.now a.offered_places.now a.offered_paints.now a.passes a.target.now (length a.first.now) (length a.second.now) (sym c.bad_list.ensures ∙ c.if-bad_list.true)) (λ z. shapeless-some a.w a.h (sym k.ensures ∙ sym n.ensures ∙ z)) c.refused.ensures

pub returns-then-bad_list-2 : goal.returns-then-bad_list-2
returns-then-bad_list-2 c =
    let a = c.args in
    let k = c.no_shape-then-bad_list-2 in
    let n = c.number-then-bad_list-2 in
    untouched _ n.result c.refused-then-bad_list-2.result (n.ensures ∙ k.ensures ∙ number_offers a.w a.h a.red a.green a.blue a.sizes.now a.places.now a.paints.now a.offered_sizes.now a.offered_places.now a.offered_paints.now a.passes a.target.now (length a.first.now) (length a.second.now) (sym c.bad_list-2.ensures ∙ c.if-bad_list-2.true)) (λ z. shapeless-some a.w a.h (sym k.ensures ∙ sym n.ensures ∙ z)) c.refused-then-bad_list-2.ensures

pub returns-then-sizes-gt64 : goal.returns-then-sizes-gt64
returns-then-sizes-gt64 c =
    let a = c.args in
    let k = c.long_refusal in
    let n = c.number-then-sizes-gt64 in
    untouched _ n.result c.refused-then-sizes-gt64.result
    (n.ensures ∙ k.ensures ∙ many-shapes a.w a.h a.red a.green a.blue (shapes_of a.sizes.now a.places.now a.paints.now) (offers_of a.offered_sizes.now a.offered_places.now a.offered_paints.now) a.passes a.target.now (length a.first.now) (length a.second.now) (omega (arith, length-tab (shape_at a.sizes.now a.places.now a.paints.now) (length a.sizes.now), c.if-sizes-gt64.true)) ∙ (number_good a.w a.h a.red a.green a.blue a.sizes.now a.places.now a.paints.now a.offered_sizes.now a.offered_places.now a.offered_paints.now a.passes a.target.now (length a.first.now) (length a.second.now) (sym c.bad_list.ensures ∙ c.if-bad_list.false) (sym c.bad_list-2.ensures ∙ c.if-bad_list-2.false)))
    (λ z. many-some a.w a.h (length a.target.now) (length a.first.now) (length a.second.now) (sym k.ensures ∙ sym n.ensures ∙ z))
    c.refused-then-sizes-gt64.ensures

pub returns-then-offered_sizes-gt1024 : goal.returns-then-offered_sizes-gt1024
returns-then-offered_sizes-gt1024 c =
    let a = c.args in
    let k = c.long_refusal-then-offered_sizes-gt1024 in
    let n = c.number-then-offered_sizes-gt1024 in
    untouched _ n.result c.refused-then-offered_sizes-gt1024.result
    (n.ensures ∙ k.ensures ∙ many_offers a.w a.h a.red a.green a.blue (shapes_of a.sizes.now a.places.now a.paints.now) (offers_of a.offered_sizes.now a.offered_places.now a.offered_paints.now) a.passes a.target.now (length a.first.now) (length a.second.now) (omega (arith, length-tab (offer_at a.offered_sizes.now a.offered_places.now a.offered_paints.now) (length a.offered_sizes.now), c.if-offered_sizes-gt1024.true)) ∙ (number_good a.w a.h a.red a.green a.blue a.sizes.now a.places.now a.paints.now a.offered_sizes.now a.offered_places.now a.offered_paints.now a.passes a.target.now (length a.first.now) (length a.second.now) (sym c.bad_list.ensures ∙ c.if-bad_list.false) (sym c.bad_list-2.ensures ∙ c.if-bad_list-2.false)))
    (λ z. many-some a.w a.h (length a.target.now) (length a.first.now) (length a.second.now) (sym k.ensures ∙ sym n.ensures ∙ z))
    c.refused-then-offered_sizes-gt1024.ensures

pub refine_lists-requires : goal.refine_lists-requires
refine_lists-requires c =
    let a = c.args in
    let p = fits_of a.sizes.now a.places.now a.paints.now false (sym c.bad_list.ensures ∙ c.if-bad_list.false) in
    let q = fits_of a.offered_sizes.now a.offered_places.now a.offered_paints.now true (sym c.bad_list-2.ensures ∙ c.if-bad_list-2.false) in
    record { list = (omega (arith, c.if-sizes-gt64.false), p); offers = (omega (arith, c.if-offered_sizes-gt1024.false), q) }

pub returns : goal.returns
returns c =
    let a = c.args in
    renumbered _ _ (number_good a.w a.h a.red a.green a.blue a.sizes.now a.places.now a.paints.now a.offered_sizes.now a.offered_places.now a.offered_paints.now a.passes a.target.now (length a.first.now) (length a.second.now) (sym c.bad_list.ensures ∙ c.if-bad_list.false) (sym c.bad_list-2.ensures ∙ c.if-bad_list-2.false)) c.refine_lists.ensures
