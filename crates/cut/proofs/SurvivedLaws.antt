-- The theorem over what it asks for, written out.
use Rattle.std.proofs.Common.{sym, subst}
use Rattle.cut.specs.Cut.{Tear, size, old, new, left, Possible, AccidentBy}
use Rattle.cut.specs.Laws.{AnyCutSurvived}
use Rattle.cut.proofs.Theorem.{cut_theorem, mark_asked}

pub any_cut_survived : AnyCutSurvived
any_cut_survived =
    record {
      ascending = λ w k sound few mark correct is point none out room.
          cut_theorem w sound few (mark_asked w.before w.pair w.behind mark) correct (subst (λ (tear : Tear). Possible tear (size w)) (sym is) point)
          (λ accident. none (subst (λ (tear : Tear). AccidentBy tear (left w) (old w) (new w) w.payload) is accident)) out room;
      sectors = λ w reached sound few mark correct is none out room.
          cut_theorem w sound few (mark_asked w.before w.pair w.behind mark) correct (subst (λ (tear : Tear). Possible tear (size w)) (sym is) tt)
          (λ accident. none (subst (λ (tear : Tear). AccidentBy tear (left w) (old w) (new w) w.payload) is accident)) out room;
    }
