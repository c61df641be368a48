-- The parts of a pair's frame hold what `decide` looks at, and each frame of a typed store stands at its pair's place.
use Rattle.std.proofs.Common.{◌≡◌, refl, ap, ap₂, ◌∙◌, List, [], ◌∷◌, ◌++◌, ℕ, length, map, slice_get, Some}
use Rattle.pair.specs.Pair.{decide}
use Rattle.pair.specs.Winner.{read_pair}
use Rattle.judge.specs.Frames.{frames}
use Rattle.judge.specs.Same.{Framed, frame_of, frames_of, Fits, AllFit}
use Rattle.judge.proofs.SameLaws.{a-read, b-read, frames-are}
use Rattle.cut.specs.Store.{Pair, report, framed_pair, framed}
use Rattle.plan.specs.Pairs.{status_or_unread, frame_report}
use Rattle.plan.proofs.ReportLaws.{held_report, part_holds, decide_held}

report_held : (f : Framed) → Fits f → frame_report (frame_of f) ≡ held_report (decide f.pair.a.status f.pair.b.status)
report_held f fits =
    ap₂ decide (ap status_or_unread (a-read f fits) ∙ part_holds f.rest_a f.pair.a.status f.pair.a.facts)
    (ap status_or_unread (b-read f fits) ∙ part_holds f.rest_b f.pair.b.status f.pair.b.facts)
    ∙ decide_held f.pair.a.status f.pair.b.status

pub frame_reports : (p : Pair) → Fits (framed_pair p) → frame_report (frame_of (framed_pair p)) ≡ held_report (report p)
unfolding read_pair
frame_reports p fits = report_held (framed_pair p) fits

among : (before : List Pair) (p : Pair) (behind : List Pair)
    → slice_get (map frame_of (framed (before ++ p ∷ behind))) (length before) ≡ Some (frame_of (framed_pair p))
among [] p behind = refl
among (q ∷ before) p behind = among before p behind

pub frame_at : (before : List Pair) (p : Pair) (behind : List Pair)
    → slice_get (frames (frames_of (framed (before ++ p ∷ behind)))) (length before) ≡ Some (frame_of (framed_pair p))
frame_at before p behind =
    ap (λ (fs : List (List ℕ)). slice_get fs (length before)) (frames-are (framed (before ++ p ∷ behind))) ∙ among before p behind

pub fits_at : (before : List Pair) (p : Pair) (behind : List Pair) → AllFit (framed (before ++ p ∷ behind)) → Fits (framed_pair p)
fits_at [] p behind fits = fits.0
fits_at (q ∷ before) p behind fits = fits_at before p behind fits.1
