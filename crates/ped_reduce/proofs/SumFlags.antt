-- A program in which the sums of a DO are kept apart in a DO is valid where it is with a PARALLEL DO in its place: the printed statement is shorter, and all else is as it was.
use Rattle.std.proofs.Common.{◌≡◌, ℕ, ◌+◌, ◌≤◌, ◌==◌, List, [], ◌++◌, codes, length, length-append, Bool, true, false, ◌&&◌, not, nat_le, if◌then◌else◌, refl, sym, ap, ◌∙◌, arith}
use Rattle.std.specs.Prelude.{nat_lt}
use Rattle.std.specs.List.{list_all}
use Rattle.std.proofs.lemmas.Bool.{leb-true, le-leb}
use Rattle.ped_base.specs.Lists.{is_among}
use Rattle.ped_tree.specs.Grammar.Fits.{Surroundings, moved, in_if, in_loop, is_within, private_fits, loop_fits, expr_fits, stmt_fits, stmts_fit, decls_fit, begins_with_statement, at_body}
use Rattle.ped_tree.specs.Grammar.LimitNumbers.{most_loops_nested, most_blocks_nested, most_characters}
use Rattle.ped_tree.specs.Grammar.Words.{is_name}
use Rattle.ped_tree.specs.Numbering.{statement_count, statements_count}
use Rattle.ped_tree.specs.Printing.{value_text, step_text, do_word, do_text}
use Rattle.ped_tree.specs.Tree.{CondTree, Head, StmtTree, StmtTrees, Assign, If, Do, Print, Read, Stop, Comment, no_stmts, more_stmts, DeclTree, ProgramTree}
use Rattle.ped_rules.specs.ped_steps.specs.Replacing.{followed, alone, replaced, all_replaced}
use Rattle.ped_rules.specs.ped_steps.proofs.RunLaws.FilledGaps.{counted}
use Rattle.ped_rules.specs.ped_symbols.specs.NameRefusals.{name_refusals, IsValid}
use Rattle.ped_rules.specs.ped_flow.proofs.Truths.{untrue, and_split}
use Rattle.ped_rules.specs.OnlyLoops.{on_loop}
use Rattle.ped_reduce.specs.Lists.{without_list}
use Rattle.ped_reduce.specs.Lowering.{Partials, declarations, zeros, all_summed, exits, bare, lowered_loop}
use Rattle.ped_reduce.proofs.SerialPrograms.{serial, all_serial, begins_same, refused_as_serial}
use Rattle.ped_reduce.proofs.SumGoals.{FlagOff}

and_more : (a b c d : Bool) → (a ≡ true → c ≡ true) → (b ≡ true → d ≡ true) → (a && b) ≡ true → (c && d) ≡ true
and_more a b c d h k e = let p = and_split a b e in λ i. h p.0 i && k p.1 i

-- statements one behind the other
serial_followed : (a b : StmtTrees) → all_serial (followed a b) ≡ followed (all_serial a) (all_serial b)
serial_followed no_stmts b = refl
serial_followed (more_stmts s a) b = ap (λ (ts : StmtTrees). more_stmts (serial s) ts) (serial_followed a b)

and_assoc : (a b c : Bool) → (a && (b && c)) ≡ ((a && b) && c)
and_assoc true b c = refl
and_assoc false b c = refl

fit_at : (p : Surroundings) (b : StmtTrees) (n m : ℕ) → n ≡ m → stmts_fit (record p { statements = n }) b ≡ stmts_fit (record p { statements = m }) b
fit_at p b n m e = ap (λ (k : ℕ). stmts_fit (record p { statements = k }) b) e

fit_followed : (a b : StmtTrees) (p : Surroundings) → stmts_fit p (followed a b) ≡ (stmts_fit p a && stmts_fit (moved p (statements_count a)) b)
fit_followed no_stmts b p = fit_at p b p.statements (p.statements + 0) (omega arith)
fit_followed (more_stmts s a) b p =
    ap (λ (q : Bool). stmt_fits p s && q) (fit_followed a b (moved p (statement_count s)) ∙ ap (λ (q : Bool). stmts_fit (moved p (statement_count s)) a && q) (fit_at p b (p.statements + statement_count s + statements_count a) (p.statements + (statement_count s + statements_count a)) (omega arith)))
    ∙ and_assoc (stmt_fits p s) (stmts_fit (moved p (statement_count s)) a) (stmts_fit (moved p (statement_count s + statements_count a)) b)

-- the second statements are those that were, but for flags, and fit where those did
record IsLess (on off : StmtTrees) : Type 0 where
  count : statements_count off ≡ statements_count on
  same : all_serial off ≡ all_serial on
  fit : (p : Surroundings) → stmts_fit p on ≡ true → stmts_fit p off ≡ true

itself : (a : StmtTrees) → IsLess a a
itself a = record { count = refl; same = refl; fit = λ p e. e }

followed_less : (a b x y : StmtTrees) → IsLess a x → IsLess b y → IsLess (followed a b) (followed x y)
followed_less a b x y h k = record {
  count = counted x y ∙ (λ i. h.count i + k.count i) ∙ sym (counted a b);
  same = serial_followed x y ∙ (λ i. followed (h.same i) (k.same i)) ∙ sym (serial_followed a b);
  fit = λ p e.
      let parts = and_split (stmts_fit p a) (stmts_fit (moved p (statements_count a)) b) (sym (fit_followed a b p) ∙ e) in
      let rest = ap (λ (n : ℕ). stmts_fit (moved p n) y) h.count ∙ k.fit (moved p (statements_count a)) parts.1 in
      fit_followed x y p ∙ (λ i. h.fit p parts.0 i && rest i);
}

if_less : (c : CondTree) (a b x y : StmtTrees) → IsLess a x → IsLess b y → IsLess (alone (If c a b)) (alone (If c x y))
if_less c a b x y h k = record {
  count = λ i. (h.count i + k.count i + 1) + 0;
  same = λ i. alone (If c (h.same i) (k.same i));
  fit = λ p e.
      let whole = and_split (stmt_fits p (If c a b)) true e in
      let parts = and_split _ (stmts_fit (in_if p (1 + statements_count a)) b) whole.0 in
      let first = and_split _ (stmts_fit (in_if p 1) a) parts.0 in
      let second = ap (λ (n : ℕ). stmts_fit (in_if p (1 + n)) y) h.count ∙ k.fit (in_if p (1 + statements_count a)) parts.1 in
      λ i. ((first.0 i && h.fit (in_if p 1) first.1 i) && second i) && true;
}

do_less : (h : Head) (a x : StmtTrees) → IsLess a x → IsLess (alone (Do h a)) (alone (Do h x))
do_less h a x k = record {
  count = λ i. (k.count i + 1) + 0;
  same = λ i. alone (Do (record h { parallel = false }) (k.same i));
  fit = λ p e.
      let whole = and_split (stmt_fits p (Do h a)) true e in
      let parts = and_split (loop_fits p h a) (stmts_fit (in_loop p h) a) whole.0 in
      λ i. (parts.0 i && k.fit (in_loop p h) parts.1 i) && true;
}

chosen_less : (b : Bool) (a c x y : StmtTrees) → IsLess a x → IsLess c y → IsLess (if b then a else c) (if b then x else y)
chosen_less true a c x y h k = h
chosen_less false a c x y h k = k

-- a text behind a shorter one is shorter
longer : (a b c : List ℕ) → length a ≤ length b → length (a ++ c) ≤ length (b ++ c)
longer a b c h =
    let first = length-append a c in
    let second = length-append b c in
    omega (arith, h, first, second)

shorter_word : length (do_word false) ≤ length (do_word true)
shorter_word =
    let three : length (do_word false) ≡ 3 = refl in
    let twelve : length (do_word true) ≡ 12 = refl in
    omega (arith, three, twelve)

-- a DO in the place of a PARALLEL DO
module _ (h : Head) (body : StmtTrees) where
  -- the head of a PARALLEL DO, or of a DO
  abbrev flag : Bool → Head
  flag parallel = record h { parallel = parallel }

  shorter : length (do_text (flag false)) ≤ length (do_text (flag true))
  shorter =
      longer (do_word false ++ h.variable ++ codes " = " ++ value_text h.first ++ codes ", " ++ value_text h.last) (do_word true ++ h.variable ++ codes " = " ++ value_text h.first ++ codes ", " ++ value_text h.last) (step_text h.step)
      (longer (do_word false ++ h.variable ++ codes " = " ++ value_text h.first ++ codes ", ") (do_word true ++ h.variable ++ codes " = " ++ value_text h.first ++ codes ", ") (value_text h.last)
      (longer (do_word false ++ h.variable ++ codes " = " ++ value_text h.first) (do_word true ++ h.variable ++ codes " = " ++ value_text h.first) (codes ", ")
      (longer (do_word false ++ h.variable ++ codes " = ") (do_word true ++ h.variable ++ codes " = ") (value_text h.first)
      (longer (do_word false ++ h.variable) (do_word true ++ h.variable) (codes " = ")
      (longer (do_word false) (do_word true) h.variable shorter_word)))))

  within_less : (p : Surroundings) → is_within p (Do (flag true) body) ≡ true → is_within p (Do (flag false) body) ≡ true
  within_less p e =
      let parts = and_split _ (nat_le (length (do_text (flag true))) most_characters) e in
      let few = leb-true (length (do_text (flag true))) most_characters parts.1 in
      let less = shorter in
      let fewer = le-leb (length (do_text (flag false))) most_characters (omega (arith, few, less)) in
      λ i. parts.0 i && fewer i

  -- what else is asked of a DO by itself
  abbrev and_else : Surroundings → Bool → Bool
  and_else p within =
      within
      && is_name h.variable && expr_fits h.first && expr_fits h.last && expr_fits h.step
      && not (is_among h.variable p.variables) && not (is_among h.variable p.private)
      && nat_lt (length p.variables) most_loops_nested && nat_lt p.depth most_blocks_nested
      && private_fits p h
      && list_all is_name h.rejected

  else_more : (p : Surroundings) (a b : Bool) → (a ≡ true → b ≡ true) → and_else p a ≡ true → and_else p b ≡ true
  else_more p true b k e = ap (and_else p) (k refl) ∙ e
  else_more p false b k e = untrue e

  loop_less : (p : Surroundings) → loop_fits p (flag true) body ≡ true → loop_fits p (flag false) body ≡ true
  loop_less p = else_more p (is_within p (Do (flag true) body)) (is_within p (Do (flag false) body)) (within_less p)

  flag_less : (rest : StmtTrees) → IsLess (more_stmts (Do (flag true) body) rest) (more_stmts (Do (flag false) body) rest)
  flag_less rest = record {
    count = refl;
    same = refl;
    fit = λ p. and_more (stmt_fits p (Do (flag true) body)) (stmts_fit (moved p (statement_count (Do h body))) rest) (stmt_fits p (Do (flag false) body)) (stmts_fit (moved p (statement_count (Do h body))) rest)
        (and_more (loop_fits p (flag true) body) (stmts_fit (in_loop p h) body) (loop_fits p (flag false) body) (stmts_fit (in_loop p h) body) (loop_less p) (λ e. e)) (λ e. e);
  }

-- statements of which one is exchanged for others with one flag, and for the same with another
module _ (on off : StmtTree → StmtTrees) (less : (z : StmtTree) → IsLess (on z) (off z)) (sought : ℕ) where
  mutual
    one_less : (z : StmtTree) (n : ℕ) → IsLess (replaced on sought z n) (replaced off sought z n)
    one_less (Assign left right) n = chosen_less (n == sought) _ _ _ _ (less (Assign left right)) (itself (alone (Assign left right)))
    one_less (If c a b) n =
        chosen_less (n == sought) _ _ _ _ (less (If c a b))
        (if_less c (all_replaced on sought a (n + 1)) (all_replaced on sought b (n + 1 + statements_count a)) (all_replaced off sought a (n + 1)) (all_replaced off sought b (n + 1 + statements_count a)) (all_less a (n + 1)) (all_less b (n + 1 + statements_count a)))
    one_less (Do h body) n = chosen_less (n == sought) _ _ _ _ (less (Do h body)) (do_less h (all_replaced on sought body (n + 1)) (all_replaced off sought body (n + 1)) (all_less body (n + 1)))
    one_less (Print items) n = chosen_less (n == sought) _ _ _ _ (less (Print items)) (itself (alone (Print items)))
    one_less (Read items) n = chosen_less (n == sought) _ _ _ _ (less (Read items)) (itself (alone (Read items)))
    one_less Stop n = chosen_less (n == sought) _ _ _ _ (less Stop) (itself (alone Stop))
    one_less (Comment text) n = itself (alone (Comment text))

    all_less : (ts : StmtTrees) (n : ℕ) → IsLess (all_replaced on sought ts n) (all_replaced off sought ts n)
    all_less no_stmts n = itself no_stmts
    all_less (more_stmts z rest) n = followed_less (replaced on sought z n) (all_replaced on sought rest (n + statement_count z)) (replaced off sought z n) (all_replaced off sought rest (n + statement_count z)) (one_less z n) (all_less rest (n + statement_count z))

-- programs of such statements
module _ (ds : List DeclTree) (on off : StmtTrees) (less : IsLess on off) where
  -- the program of these declarations and statements
  abbrev program : StmtTrees → ProgramTree
  program ts = record { decls = ds; body = ts }

  begins_alike : begins_with_statement off ≡ begins_with_statement on
  begins_alike = sym (begins_same off) ∙ ap begins_with_statement less.same ∙ begins_same on

  less_valid : IsValid (program on) → IsValid (program off)
  less_valid valid = record {
    fits = (
        let whole = and_split (decls_fit 0 ds && stmts_fit (at_body (program on)) on) (begins_with_statement on) valid.fits in
        let parts = and_split (decls_fit 0 ds) (stmts_fit (at_body (program on)) on) whole.0 in
        λ i. (parts.0 i && less.fit (at_body (program on)) parts.1 i) && (begins_alike ∙ whole.1) i
        );
    names = sym (refused_as_serial [] (program off)) ∙ ap (λ (ts : StmtTrees). name_refusals [] (program ts)) less.same ∙ refused_as_serial [] (program on) ∙ valid.names;
  }

-- a DO whose sums are kept apart
lowered_less : (ps : List Partials) (z : StmtTree) → IsLess (on_loop (lowered_loop true ps) z) (on_loop (lowered_loop false ps) z)
lowered_less ps (Assign left right) = itself (alone (Assign left right))
lowered_less ps (If c a b) = itself (alone (If c a b))
lowered_less ps (Do h body) = flag_less h (followed (zeros h.variable ps) (all_summed h.variable ps (without_list body))) (alone (Do (bare h) (exits h.variable ps)))
lowered_less ps (Print items) = itself (alone (Print items))
lowered_less ps (Read items) = itself (alone (Read items))
lowered_less ps Stop = itself (alone Stop)
lowered_less ps (Comment text) = itself (alone (Comment text))

pub flag_off : FlagOff
flag_off t s ps v =
    less_valid (t.decls ++ declarations v ps) (all_replaced (on_loop (lowered_loop true ps)) s t.body 1) (all_replaced (on_loop (lowered_loop false ps)) s t.body 1)
    (all_less (on_loop (lowered_loop true ps)) (on_loop (lowered_loop false ps)) (lowered_less ps) s t.body 1)
