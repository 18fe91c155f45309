use Rattle.std.proofs.Common.{◌<◌, ◌∷◌, [], ◌++◌, ℕ, Bool, List, length, take, get_or, ap, sym, ◌∙◌, append_assoc, arith}
use Rattle.std.specs.Prelude.{◌||◌}
use Rattle.std.proofs.lemmas.List.{take_more}
use Rattle.ped_tree.specs.Grammar.Characters.{is_bad, has_bad, kept, text_behind}
use Rattle.ped_lines.specs.Quoting.{quoting_of}
use Rattle.ped_lines.proofs.Quoting.{text_more, has_bad_more}
use Rattle.ped_lines.proofs.characters.OpenText.with_columns.Goals as goal

pub loop-c-preserved : goal.loop-c-preserved
loop-c-preserved c =
    let columns = c.args.columns.now in
    let index : ℕ = c.loop-c.c-index in
    let inside : index < length columns = omega arith in
    let front = take index columns in
    let next : ℕ = get_or columns index 0 in
    let more = take_more columns index 0 inside in
    record {
      text = λ before same.
          c.in_ok-push_kept.ensures (before ++ front) (c.loop-c.invariant.quoting before same)
          ∙ ap (λ (t : List ℕ). t ++ kept (before ++ front) next) (c.loop-c.invariant.text before same)
          ∙ append_assoc c.args.self.bytes.items (text_behind before front) (kept (before ++ front) next)
          ∙ sym (ap (λ (t : List ℕ). c.args.self.bytes.items ++ t) (ap (text_behind before) more ∙ text_more before front next));
      quoting = λ before same.
          ap (λ (t : List ℕ). quoting_of (before ++ t)) more
          ∙ ap quoting_of (sym (append_assoc before front (next ∷ [])))
          ∙ c.quoting_behind-quoting.ensures (before ++ front) (c.loop-c.invariant.quoting before same);
      bad = λ before same.
          ap (has_bad before) more
          ∙ has_bad_more before front next
          ∙ ap (λ (b : Bool). b || is_bad (before ++ front) next) (c.loop-c.invariant.bad before same)
          ∙ sym (c.is_bad_so_far-bad.ensures (before ++ front) (c.loop-c.invariant.quoting before same));
    }
