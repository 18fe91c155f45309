use Rattle.std.proofs.Common.{◌≡◌, ℕ, ◌+◌, Option, drop, List, [], ◌++◌, ◌∷◌, sym, ap, ◌∙◌, arith}
use Rattle.ped_script.specs.declared.items.Item.{Item}
use Rattle.ped_script.specs.Words.{Text, words_of}
use Rattle.ped_script.specs.Items.{whole_command, taken_lines, items_from, commands_of}
use Rattle.ped_script.specs.Rows.{command_of}
use Rattle.ped_script.specs.declared.items.Command.{Command}
use Rattle.ped_script.proofs.Passing.{blank_item, with_item}
use Rattle.ped_script.proofs.reading.commands.Goals as goal

pub loop-line-init : goal.loop-line-init
unfolding commands_of
loop-line-init c =
    let none : c.new-items.result ++ items_from (c.new-lines.result.read + 1) 0 c.new-lines.result.lines ≡ items_from (c.new-lines.result.read + 1) 0 c.new-lines.result.lines =
    ap (λ (items : List Item). items ++ items_from (c.new-lines.result.read + 1) 0 c.new-lines.result.lines) c.new-items.ensures in
    let first : c.new-lines.result.read + 1 ≡ 1 = omega (arith, c.new-lines.ensures.read) in
    none ∙ ap (λ (n : ℕ). items_from n 0 c.new-lines.result.lines) first ∙ ap (items_from 1 0) c.new-lines.ensures.lines

pub loop-line-preserved-then-not-has_word : goal.loop-line-preserved-then-not-has_word
loop-line-preserved-then-not-has_word c =
    let ls = c.next.new.self.lines in
    let n : ℕ = c.loop-line.lines.read + 1 in
    ap (λ (m : ℕ). c.loop-line.items ++ items_from (m + 1) 0 ls) c.in-Some.ensures.line.1
    ∙ ap (λ (x : List Item). c.loop-line.items ++ x) (sym (blank_item n c.in-Some.line.now ls (sym c.has_word.ensures ∙ c.if-not-has_word.true)))
    ∙ ap (λ (x : List Text). c.loop-line.items ++ items_from n 0 x) (sym c.in-Some.ensures.line.0)
    ∙ c.loop-line.invariant

pub loop-line-preserved : goal.loop-line-preserved
loop-line-preserved c =
    let line = c.in-Some.line.now in
    let ls = c.next.new.self.lines in
    let n : ℕ = c.loop-line.lines.read + 1 in
    let number : c.read-number.result ≡ n = c.read-number.ensures ∙ c.in-Some.ensures.line.1 in
    let words : c.in_ok-words.words ≡ command_of (words_of line) = c.in_ok-words.ensures in
    let command : c.in_ok-command.command ≡ whole_command (command_of (words_of line)) ls =
    c.in_ok-command.ensures.command ∙ ap (λ (o : Option Command). whole_command o ls) words in
    let added : c.push.new.self ≡ c.loop-line.items ++ record { line = n; command = c.in_ok-command.command } ∷ [] =
    c.in_ok-push.ensures.ok ∙ ap (λ (m : ℕ). c.loop-line.items ++ record { line = m; command = c.in_ok-command.command } ∷ []) number in
    let cut : c.whole.new.lines.lines ≡ drop (taken_lines (command_of (words_of line)) ls) ls =
    c.in_ok-command.ensures.lines ∙ ap (λ (o : Option Command). drop (taken_lines o ls) ls) words in
    let count : c.whole.new.lines.read ≡ n + taken_lines (command_of (words_of line)) ls =
    c.in_ok-command.ensures.read ∙ ap (λ (o : Option Command). c.next.new.self.read + taken_lines o ls) words
    ∙ ap (λ (m : ℕ). m + taken_lines (command_of (words_of line)) ls) c.in-Some.ensures.line.1 in
    with_item c.loop-line.items c.push.new.self n line ls c.whole.new.lines.lines c.in_ok-command.command c.whole.new.lines.read (sym c.has_word.ensures ∙ c.if-not-has_word.false) command added cut count
    ∙ ap (λ (x : List Text). c.loop-line.items ++ items_from n 0 x) (sym c.in-Some.ensures.line.0)
    ∙ c.loop-line.invariant
