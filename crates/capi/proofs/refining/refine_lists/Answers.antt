use mathlib.Core.Path.{refl, sym, ap, ◌∙◌}
use lib.ListN.{length}
use native.Mathlib.Omega.{arith}
use Rattle.refusal.specs.OutcomeLaws.{number-positive}
use Rattle.refine.specs.Answers.{number_in}
use Rattle.capi.specs.Answers.{refused_by}
use Rattle.shapes.specs.Lists.{listed, offered}
use Rattle.crossing.specs.Crossed.{shape_at, offer_at}
use Rattle.capi.specs.RefiningLaws.{counted, relisted, refused_refines, same_count, done_refines}
use Rattle.capi.proofs.refining.refine_lists.Goals as goal

-- What `refine_shapes` promises of the lists that were read, and the slices that the list is written back to.

pub returns-in-Some : goal.returns-in-Some
returns-in-Some c =
    let a = c.args in
    let list = c.read_list-list.result in
    let offers = c.read_offers-offers.result in
    let n = counted list.count (length a.sizes.now) (listed list) (shape_at a.sizes.now a.places.now a.paints.now) c.read_list-list.ensures.0 c.read_list-list.ensures.1 in
    let m = counted offers.count (length a.offered_sizes.now) (offered offers) (offer_at a.offered_sizes.now a.offered_places.now a.offered_paints.now) c.read_offers-offers.ensures.0 c.read_offers-offers.ensures.1 in
    relisted (listed list) (offered offers) c.read_list-list.ensures.1 c.read_offers-offers.ensures.1
    (refused_refines a.w a.h a.red a.green a.blue a.target.now list offers a.passes a.first.now a.second.now n m c.refine_shapes-r.result _ _ c.refine_shapes-r.ensures a.sizes.now a.places.now a.paints.now c.refused.result (λ z. number-positive c.in-Some.why (sym (ap number_in c.in-Some.is) ∙ z)) (c.refused.ensures ∙ ap refused_by (c.number.ensures ∙ sym (ap number_in c.in-Some.is))))

pub write_list-requires : goal.write_list-requires
write_list-requires c =
    let a = c.args in
    let list = c.read_list-list.result in
    let offers = c.read_offers-offers.result in
    let n = counted list.count (length a.sizes.now) (listed list) (shape_at a.sizes.now a.places.now a.paints.now) c.read_list-list.ensures.0 c.read_list-list.ensures.1 in
    let m = counted offers.count (length a.offered_sizes.now) (offered offers) (offer_at a.offered_sizes.now a.offered_places.now a.offered_paints.now) c.read_offers-offers.ensures.0 c.read_offers-offers.ensures.1 in
    let k = same_count a.w a.h a.red a.green a.blue a.target.now list offers a.passes a.first.now a.second.now n m c.refine_shapes-r.result _ _ c.refine_shapes-r.ensures (ap number_in c.in_default.is) ∙ c.read_list-list.ensures.0 in
    (k, omega (arith, k, c.requires.list.0), c.requires.list.1)

pub returns : goal.returns
returns c =
    let a = c.args in
    let list = c.read_list-list.result in
    let offers = c.read_offers-offers.result in
    let n = counted list.count (length a.sizes.now) (listed list) (shape_at a.sizes.now a.places.now a.paints.now) c.read_list-list.ensures.0 c.read_list-list.ensures.1 in
    let m = counted offers.count (length a.offered_sizes.now) (offered offers) (offer_at a.offered_sizes.now a.offered_places.now a.offered_paints.now) c.read_offers-offers.ensures.0 c.read_offers-offers.ensures.1 in
    relisted (listed list) (offered offers) c.read_list-list.ensures.1 c.read_offers-offers.ensures.1
    (done_refines a.w a.h a.red a.green a.blue a.target.now list offers a.passes a.first.now a.second.now n m c.refine_shapes-r.result _ _ c.refine_shapes-r.ensures (ap number_in c.in_default.is) a.sizes.now _ a.places.now _ a.paints.now _ _ c.refused-a.result c.refused-a.ensures refl c.write_list.ensures)
