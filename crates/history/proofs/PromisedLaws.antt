-- What is promised at the start, after a finished write and after a cut one, over what a history asks for.
use Rattle.std.proofs.Common.{sym, ap, subst, ◌∙◌, Bool, ℕ, ◌*◌, map}
use Rattle.std.proofs.lemmas.List.{length-map}
use Rattle.judge.specs.Frames.{verdict_width}
use Rattle.cut.proofs.EveryLaws.{same_length}
use Rattle.history.specs.History.{started, write_to, finished, torn_by, Promised}
use Rattle.history.specs.Laws.{EachStepPromised}
use Rattle.history.proofs.Theorem.{history_theorem, start_mark, any_store_begins, any_cut_goes_on}

pub each_step_promised : EachStepPromised
each_step_promised =
    record {
      start = λ ps sound few out room.
          subst (λ (clean : Bool). Promised clean (map started ps) out) (start_mark ps sound)
          (history_theorem (map started ps) (any_store_begins ps sound few) out (room ∙ ap (λ (n : ℕ). n * verdict_width) (sym (length-map ps started))));
      finish = λ before t behind q so_far allowed out room.
          history_theorem _ (any_cut_goes_on before t behind q so_far allowed).finished_write out
          (room ∙ ap (λ (n : ℕ). n * verdict_width) (same_length before t (finished (write_to before t behind q) t) behind));
      cut = λ before t behind q so_far allowed none k is point out room.
          history_theorem _ ((any_cut_goes_on before t behind q so_far allowed).torn_write none k is point) out
          (room ∙ ap (λ (n : ℕ). n * verdict_width) (same_length before t (torn_by (write_to before t behind q) t) behind));
      cut_by_sectors = λ before t behind q so_far allowed none reached is out room.
          history_theorem _ ((any_cut_goes_on before t behind q so_far allowed).torn_sectors none reached is) out
          (room ∙ ap (λ (n : ℕ). n * verdict_width) (same_length before t (torn_by (write_to before t behind q) t) behind));
    }
