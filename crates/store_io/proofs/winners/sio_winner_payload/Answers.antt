-- `sio_winner_payload` meets its contract: the winner's payload lies within its slot, so its start is the one that the slot's facts give.
use Rattle.std.proofs.Common.{◌≡◌, sym, ◌∙◌, ap, subst, length, Some}
use Rattle.pair.specs.Pair.{winner_info}
use Rattle.pair.specs.Winner.{WinnerPart}
use Rattle.pair.specs.declared.pair.PairReport.{PairReport}
use Rattle.pair.proofs.WinnerLaws.{winner_fits}
use Rattle.store_io.specs.Winners.{pair_of}
use Rattle.store_io.proofs.PlaceLaws.{Placed, placed}
use Rattle.store_io.proofs.winners.sio_winner_payload.Goals as goal

module _ (c : goal.After-from-2) where
  abbrev pair : PairReport
  pair = pair_of c.args.a.now c.args.b.now c.args.volume0 c.args.volume1 c.args.object_id c.args.a_offset c.args.b_offset c.args.log2_slot_size c.args.format_major c.args.numbered

  read : c.winner_payload.result.0 ≡ pair
  read = rw (c.expect_of-expect_a.ensures, c.expect_of-expect_b.ensures) at c.winner_payload.ensures.report

  won : winner_info pair ≡ Some (c.in-Some.index, c.in-Some.info)
  won = sym (ap winner_info read) ∙ (sym c.winner_info.ensures.value ∙ c.in-Some.is)

  part : WinnerPart (Some (c.in-Some.index, c.in-Some.info)) c.args.a c.args.b c.winner_payload.result.1
  part = subst (λ w. WinnerPart w c.args.a c.args.b c.winner_payload.result.1) won (rw (c.expect_of-expect_a.ensures, c.expect_of-expect_b.ensures) at c.winner_payload.ensures.part)

  there : Placed c.args.a c.args.b c.in-Some.index c.in-Some.info (length c.winner_payload.result.1.now)
  there = placed c.args.a c.args.b c.winner_payload.result.1 c.in-Some.index c.in-Some.info (winner_fits c.args.a.now c.args.b.now _ _ c.in-Some.index c.in-Some.info won) part

pub returns-clause-found : goal.returns-clause-found
returns-clause-found c =
    let at = there c in
    rw (won c, at.start, at.length_is, c.from-2.ensures, c.number.ensures, c.from.ensures, c.values.ensures, c.values-2.ensures, c.numbers.ensures, read c)

pub returns-clause-place : goal.returns-clause-place
returns-clause-place c other lies =
    rw (c.from-2.ensures, c.number.ensures, c.from.ensures)
    ((there c).at other (subst (λ w. WinnerPart w c.args.a c.args.b other) (won c) lies))
