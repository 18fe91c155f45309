-- The statements of a printed program are accepted one behind the other.
use Rattle.std.proofs.Common.{◌≡◌, ℕ, suc, ◌+◌, List, [], ◌∷◌, ◌++◌, map, length, None, true, false, refl, sym, ap, ◌∙◌, append_assoc, subst, arith}
use Rattle.std.specs.Prelude.{codes, not, ◌||◌, nat_lt}
use Rattle.std.proofs.lemmas.Bool.{and_parts}
use Rattle.ped_lines.specs.ped_base.specs.Lists.{has_some}
use Rattle.ped_lines.specs.ped_tree.specs.Tree.{CondTree, Head, StmtTree, StmtTrees, Assign, If, Do, Print, Read, Stop, Comment, no_stmts, more_stmts}
use Rattle.ped_lines.specs.ped_tree.specs.Numbering.{statement_count, statements_count}
use Rattle.ped_lines.specs.ped_tree.specs.Printing.{own_text, private_text}
use Rattle.ped_lines.specs.ped_tree.specs.Grammar.Items.{block_if, else_line, end_if, keeps_private, Entry}
use Rattle.ped_lines.specs.ped_tree.specs.Grammar.BlockForms.{entry, whole_head}
use Rattle.ped_lines.specs.ped_tree.specs.Grammar.Contexts.{OpenLoop, Block, in_then, in_else, in_do, Context, open_loops, open_variables, blocks_behind}
use Rattle.ped_lines.specs.ped_tree.specs.Grammar.ProgramRefusals.{is_late_private, meets, assigns_index, private_behind, block_depth, is_too_long}
use Rattle.ped_lines.specs.ped_tree.specs.Grammar.Fits.{Surroundings, moved, in_if, in_loop, stmt_fits, stmts_fit}
use Rattle.ped_lines.specs.Printed.Printed.{a_rejection}
use Rattle.ped_printed.proofs.ProgramLaws.Pieces.{Piece, said, do_piece, end_do_piece, private_pieces, rejection_pieces, statement_pieces, statements_pieces, else_pieces, Spot, statement_here, behind_pieces, entry_here, entries_here, behind_both, entries_both}
use Rattle.ped_printed.proofs.ProgramLaws.Forms.{then_spot, rest_spot, else_spot, do_spot, private_spot, inner_spot, end_spot, rejections_none}
use Rattle.ped_printed.proofs.ProgramLaws.Trees.{rejections, notes_rejected, only_behind}
use Rattle.ped_printed.proofs.ProgramLaws.Fits.{simple_parts, BranchFits, if_parts, LoopFits, do_parts, private_parts}
use Rattle.ped_printed.proofs.ProgramLaws.FormsOf.{first_small}
use Rattle.ped_printed.proofs.ProgramLaws.KeptPrivate.{open_private, kept_never}
use Rattle.ped_printed.proofs.ProgramLaws.Standing.{Stands, passes_all, undirected, Passed, pass_none, pass_one, pass_both}
use Rattle.ped_printed.proofs.ProgramLaws.Items.{in_place, within_limit, or_none, next_stands, pass_simple, pass_if, pass_else, then_part, else_part, pass_end_if, new_loop, pass_do, pass_end_do}

-- places that are the same by their numbers
same_place : (p : Surroundings) (n k : ℕ) → p.statements + n ≡ k → moved p n ≡ (record p { statements = k })
same_place p n k e = λ j. record p { statements = e j }

plus_none : (n : ℕ) → n + 0 ≡ n
plus_none n = omega arith

unmoved : (p : Surroundings) → moved p 0 ≡ p
unmoved p = same_place p 0 p.statements (plus_none p.statements)

sums : (a b c : ℕ) → a + b + c ≡ a + (b + c)
sums a b c = omega arith

moved_both : (p : Surroundings) (n k : ℕ) → moved (moved p n) k ≡ moved p (n + k)
moved_both p n k = same_place (moved p n) k (p.statements + (n + k)) (sums p.statements n k)

-- the same in surroundings that are the same
at_place : {saved : List (List ℕ)} {c : Context} {p q : Surroundings} {bs : List Block} {es rest : List Entry} → p ≡ q → Passed saved c p bs es rest → Passed saved c q bs es rest
at_place {saved = saved} {c = c} {bs = bs} {es = es} {rest = rest} h x = subst (λ (r : Surroundings). Passed saved c r bs es rest) h x

over_entries : {saved : List (List ℕ)} {c : Context} {p : Surroundings} {bs : List Block} {es fs rest : List Entry} → es ≡ fs → Passed saved c p bs es rest → Passed saved c p bs fs rest
over_entries {saved = saved} {c = c} {p = p} {bs = bs} {rest = rest} h x = subst (λ (es : List Entry). Passed saved c p bs es rest) h x

with_blocks : {saved : List (List ℕ)} {c : Context} {p : Surroundings} {bs cs : List Block} {es rest : List Entry} → bs ≡ cs → Passed saved c p bs es rest → Passed saved c p cs es rest
with_blocks {saved = saved} {c = c} {p = p} {es = es} {rest = rest} h x = subst (λ (bs : List Block). Passed saved c p bs es rest) h x

-- the first statement behind a DO is PRIVATE only where it has private names
mutual
  not_private : (depth : ℕ) (q : Spot) (s : StmtTree) (more : List Entry) → private_behind more ≡ [] → private_behind (entries_here q (statement_pieces depth s) ++ more) ≡ []
  not_private depth q (Assign l r) more h = refl
  not_private depth q (If c a b) more h = refl
  not_private depth q (Do k body) more h =
      let d = do_piece depth k body in
      let xs = private_pieces (suc depth) k.private ++ (statements_pieces (suc depth) body ++ end_do_piece depth ∷ []) in
      let r = do_spot q k in
      ap (λ (es : List Entry). private_behind (es ++ more)) (entries_both q (rejection_pieces k.rejected) (d ∷ xs) ∙ ap (λ (es : List Entry). es ++ entries_here r (d ∷ xs)) (rejections_none q k.rejected))
  not_private depth q (Print items) more h = refl
  not_private depth q (Read items) more h = refl
  not_private depth q Stop more h = refl
  not_private depth q (Comment text) more h = h

  none_private : (depth : ℕ) (q : Spot) (s : StmtTrees) (more : List Entry) → private_behind more ≡ [] → private_behind (entries_here q (statements_pieces depth s) ++ more) ≡ []
  none_private depth q no_stmts more h = h
  none_private depth q (more_stmts s rest) more h =
      let r = behind_pieces q (statement_pieces depth s) in
      let xs = entries_here q (statement_pieces depth s) in
      let ys = entries_here r (statements_pieces depth rest) in
      ap (λ (es : List Entry). private_behind (es ++ more)) (entries_both q (statement_pieces depth s) (statements_pieces depth rest))
      ∙ ap private_behind (append_assoc xs ys more)
      ∙ not_private depth q s (ys ++ more) (none_private depth r rest more h)

private_next : (depth : ℕ) (q : Spot) (names : List (List ℕ)) (more : List Entry) → private_behind more ≡ [] → private_behind (entries_here q (private_pieces depth names) ++ more) ≡ names
private_next depth q [] more h = h
private_next depth q (x ∷ xs) more h = refl

-- the PRIVATE of a loop, where it has one, and what is open behind it
record PrivatePassed (saved : List (List ℕ)) (c : Context) (p : Surroundings) (h : Head) (bs : List Block) (es rest : List Entry) : Type 0 where
  loop : OpenLoop
  label : loop.label ≡ None
  passed : Passed saved c (in_loop p h) (in_do loop ∷ bs) es rest

pass_private : (saved : List (List ℕ)) (c : Context) (p : Surroundings) (h : Head) (body : StmtTrees) (bs : List Block) (q : Spot) (depth : ℕ) (names : List (List ℕ)) (rest : List Entry) → names ≡ h.private
    → Stands (in_loop p (whole_head h [] [])) c → c.blocks ≡ in_do (new_loop h) ∷ bs → open_private bs ≡ p.private → c.behind_do ≡ true → LoopFits p h body → rejections q.notes ≡ []
    → PrivatePassed saved c p h bs (entries_here q (private_pieces depth names)) rest
pass_private saved c p h body bs q depth [] rest same at inside outer new fits only =
    record { loop = new_loop h; label = refl; passed = with_blocks inside (at_place (λ j. in_loop p (record h { private = same j })) (pass_none saved c (in_loop p (whole_head h [] [])) rest at)) }
pass_private saved c p h body bs q depth (x ∷ xs) rest same at inside outer new fits only =
    let names : List (List ℕ) = x ∷ xs in
    let i = keeps_private names in
    let st = statement_here q depth (private_text names) in
    let e = entry st i in
    let loop : OpenLoop = record (new_loop h) { private = names; private_line = st.line } in
    let cs : List Block = in_do loop ∷ bs in
    let keeps = private_parts p h fits.private (ap has_some (sym same)) in
    let blocks : blocks_behind c.behind_do st i c.blocks ≡ cs = λ j. blocks_behind (new j) st i (inside j) in
    let late : is_late_private c.behind_do i ≡ false = ap not new in
    let index : assigns_index c e.reading ≡ false = (let v = at.variables in λ j. meets (same j) (v j)) ∙ keeps.others in
    let long : is_too_long saved i ≡ false = ap (λ (ys : List (List ℕ)). nat_lt 1300 (length (private_text ys)) || false) same ∙ or_none _ keeps.short in
    let ok = passes_all saved c e rest (undirected c e q.line q.notes refl only) (in_place c i at.phase refl refl late refl refl refl) refl refl refl index (kept_never (open_loops c.blocks)) refl (within_limit saved c rest i refl refl refl refl long) in
    let variables = sym (ap open_variables inside) ∙ at.variables in
    let private : open_private cs ≡ h.private ++ p.private = λ j. same j ++ outer j in
    let depths = sym (ap block_depth inside) ∙ at.depth in
    let next = next_stands (in_loop p (whole_head h [] [])) (in_loop p h) c st i cs at refl refl blocks refl variables private depths (plus_none (p.statements + 1)) in
    record { loop = loop; label = refl; passed = pass_one saved c (in_loop p h) cs e rest ok next blocks }

-- statements of a tree run so from any context that stands there
abbrev pub Runs : List (List ℕ) → Surroundings → ℕ → StmtTrees → Type 0
Runs saved p depth s = (d : Context) (u : Spot) (more : List Entry) → Stands p d → rejections u.notes ≡ [] → Passed saved d (moved p (statements_count s)) d.blocks (entries_here u (statements_pieces depth s)) more

pub only_all : (depth : ℕ) (q : Spot) (s : StmtTrees) → rejections q.notes ≡ [] → rejections (behind_pieces q (statements_pieces depth s)).notes ≡ []
only_all depth q no_stmts h = h
only_all depth q (more_stmts s rest) h =
    ap (λ (z : Spot). rejections z.notes) (behind_both q (statement_pieces depth s) (statements_pieces depth rest))
    ∙ only_all depth (behind_pieces q (statement_pieces depth s)) rest (only_behind depth q s h)

-- what follows a THEN part
pass_rest : (saved : List (List ℕ)) (c : Context) (p : Surroundings) (n depth : ℕ) (t : Spot) (s : StmtTrees) (bs : List Block) (rest : List Entry) → Stands (in_if p n) c → c.blocks ≡ in_then 1 ∷ bs
    → open_variables bs ≡ p.variables → open_private bs ≡ p.private → block_depth bs ≡ p.depth → rejections t.notes ≡ [] → Runs saved (in_if p n) (suc depth) s
    → Passed saved c (moved p (n + statements_count s)) bs (entries_here t (else_pieces depth s ++ said depth (codes "END IF") end_if ∷ [])) rest
pass_rest saved c p n depth t no_stmts bs rest at inside variables private depths only run =
    at_place (same_place p n (p.statements + (n + 0)) (none_more p.statements n)) (pass_end_if saved c p n t depth (codes "END IF") (in_then 1) bs rest at (then_part refl) inside variables private depths only)
  where
    none_more : (a b : ℕ) → a + b ≡ a + (b + 0)
    none_more a b = omega arith
pass_rest saved c p n depth t (more_stmts s r) bs rest at inside variables private depths only run =
    let u = else_spot depth t in
    let xs = statements_pieces (suc depth) (more_stmts s r) in
    let w = behind_pieces u xs in
    let last : List Piece = said depth (codes "END IF") end_if ∷ [] in
    let es = entries_here u xs in
    let fs = entries_here w last in
    let k = statements_count (more_stmts s r) in
    let first = at_place (unmoved (in_if p n)) (pass_else saved c (in_if p n) t depth (codes "ELSE") bs (es ++ fs ++ rest) at inside only) in
    let inner = with_blocks first.blocks (run first.after u (fs ++ rest) first.position refl) in
    let there : moved (in_if p n) k ≡ in_if p (n + k) = same_place (in_if p n) k (p.statements + (n + k)) (sums p.statements n k) in
    let inner2 = at_place there inner in
    let clear = only_all (suc depth) u (more_stmts s r) refl in
    let ending = pass_end_if saved inner2.after p (n + k) w depth (codes "END IF") (in_else 1) bs rest inner2.position (else_part refl) inner2.blocks variables private depths clear in
    let both = pass_both saved first.after (in_if p (n + k)) (moved p (n + k)) (in_else 1 ∷ bs) bs es fs rest inner2 ending in
    let all = pass_both saved c (in_if p n) (moved p (n + k)) (in_else 1 ∷ bs) bs (entry_here t (said depth (codes "ELSE") else_line)) (es ++ fs) rest first both in
    over_entries (ap (λ (gs : List Entry). entry_here t (said depth (codes "ELSE") else_line) ++ gs) (sym (entries_both u xs last))) all

turned : (a b c : ℕ) → a + (1 + b + c) ≡ a + (b + c + 1)
turned a b c = omega arith

pass_branch : (saved : List (List ℕ)) (c : Context) (p : Surroundings) (depth : ℕ) (q : Spot) (k : CondTree) (a b : StmtTrees) (rest : List Entry) → Stands p c → BranchFits p (If k a b) → rejections q.notes ≡ []
    → Runs saved (in_if p 1) (suc depth) a → Runs saved (in_if p (1 + statements_count a)) (suc depth) b → Passed saved c (moved p (statement_count (If k a b))) c.blocks (entries_here q (statement_pieces depth (If k a b))) rest
pass_branch saved c p depth q k a b rest at fits only run_a run_b =
    let r = then_spot depth q (If k a b) in
    let t = rest_spot depth q (If k a b) a in
    let xs = statements_pieces (suc depth) a in
    let ys = else_pieces depth b ++ said depth (codes "END IF") end_if ∷ [] in
    let es = entries_here r xs in
    let fs = entries_here t ys in
    let n = statements_count a in
    let first = pass_if saved c p q depth (own_text (If k a b)) k a b (es ++ fs ++ rest) at fits only in
    let inner = with_blocks first.blocks (run_a first.after r (fs ++ rest) first.position refl) in
    let there : moved (in_if p 1) n ≡ in_if p (1 + n) = same_place (in_if p 1) n (p.statements + (1 + n)) (sums p.statements 1 n) in
    let inner2 = at_place there inner in
    let last = pass_rest saved inner2.after p (1 + n) depth t b c.blocks rest inner2.position inner2.blocks at.variables at.private at.depth (only_all (suc depth) r a refl) run_b in
    let both = pass_both saved first.after (in_if p (1 + n)) (moved p (1 + n + statements_count b)) (in_then 1 ∷ c.blocks) c.blocks es fs rest inner2 last in
    let all = pass_both saved c (in_if p 1) (moved p (1 + n + statements_count b)) (in_then 1 ∷ c.blocks) c.blocks (entry_here q (said depth (own_text (If k a b)) (block_if k))) (es ++ fs) rest first both in
    over_entries (ap (λ (gs : List Entry). entry_here q (said depth (own_text (If k a b)) (block_if k)) ++ gs) (sym (entries_both r xs ys)))
    (at_place (same_place p (1 + n + statements_count b) (p.statements + (n + statements_count b + 1)) (turned p.statements n (statements_count b))) all)

one_last : (a b : ℕ) → a + 1 + b ≡ a + (b + 1)
one_last a b = omega arith

pass_loop : (saved : List (List ℕ)) (c : Context) (p : Surroundings) (depth : ℕ) (q : Spot) (h : Head) (body : StmtTrees) (rest : List Entry) → Stands p c → rejections q.notes ≡ [] → LoopFits p h body → Runs saved (in_loop p h) (suc depth) body
    → Passed saved c (moved p (statement_count (Do h body))) c.blocks (entries_here q (statement_pieces depth (Do h body))) rest
pass_loop saved c p depth q h body rest at only fits run =
    let q1 = do_spot q h in
    let r = private_spot depth q h body in
    let s = inner_spot depth q h body in
    let t = end_spot depth q h body in
    let bs = c.blocks in
    let ps = private_pieces (suc depth) h.private in
    let xs = statements_pieces (suc depth) body in
    let last : List Piece = end_do_piece depth ∷ [] in
    let ep = entries_here r ps in
    let eb = entries_here s xs in
    let ec = entries_here t last in
    let n = statements_count body in
    let place = in_loop p h in
    let end_place = moved p (n + 1) in
    let clear_s : rejections s.notes ≡ [] = private_only r (suc depth) h.private refl in
    let clear_t : rejections t.notes ≡ [] = only_all (suc depth) s body clear_s in
    let notes : q1.notes ≡ q.notes ++ map a_rejection h.rejected = ap (λ (z : Spot). z.notes) (notes_rejected q h.rejected) in
    let private : private_behind (ep ++ (eb ++ ec) ++ rest) ≡ h.private =
    ap private_behind (append_assoc ep (eb ++ ec) rest)
    ∙ private_next (suc depth) r h.private (eb ++ ec ++ rest) (ap private_behind (append_assoc eb ec rest) ∙ none_private (suc depth) s body (ec ++ rest) refl) in
    let started = pass_do saved c p q1 q.notes depth (own_text (Do h body)) h body (ep ++ (eb ++ ec) ++ rest) at fits notes only private in
    let first = started.0 in
    let kept = pass_private saved first.after p h body bs r (suc depth) h.private (eb ++ ec ++ rest) refl first.position first.blocks at.private started.1 fits refl in
    let inside : List Block = in_do kept.loop ∷ bs in
    let second = kept.passed in
    let third = with_blocks second.blocks (run second.after s (ec ++ rest) second.position clear_s) in
    let fourth = pass_end_do saved third.after (moved place n) end_place kept.loop bs t depth (codes "END DO") rest third.position third.blocks kept.label refl at.variables at.private at.depth (one_last p.statements n) clear_t in
    let inner = pass_both saved second.after (moved place n) end_place inside bs eb ec rest third fourth in
    let more = pass_both saved first.after place end_place inside bs ep (eb ++ ec) rest second inner in
    let all = pass_both saved c (in_loop p (whole_head h [] [])) end_place (in_do (new_loop h) ∷ bs) bs (entry_here q1 (do_piece depth h body)) (ep ++ (eb ++ ec)) rest first more in
    let pieces : entries_here q (statement_pieces depth (Do h body)) ≡ entry_here q1 (do_piece depth h body) ++ (ep ++ (eb ++ ec)) =
    entries_both q (rejection_pieces h.rejected) (do_piece depth h body ∷ (ps ++ (xs ++ last)))
    ∙ ap (λ (gs : List Entry). gs ++ entries_here q1 (do_piece depth h body ∷ (ps ++ (xs ++ last)))) (rejections_none q h.rejected)
    ∙ ap (λ (gs : List Entry). entry_here q1 (do_piece depth h body) ++ gs) (entries_both r ps (xs ++ last) ∙ ap (λ (gs : List Entry). ep ++ gs) (entries_both s xs last)) in
    over_entries (sym pieces) all
  where
    private_only : (r : Spot) (depth : ℕ) (names : List (List ℕ)) → r.notes ≡ [] → rejections (behind_pieces r (private_pieces depth names)).notes ≡ []
    private_only r depth [] h = ap rejections h
    private_only r depth (x ∷ xs) h = refl

mutual
  pub pass_stmt : (saved : List (List ℕ)) (c : Context) (p : Surroundings) (depth : ℕ) (q : Spot) (s : StmtTree) (rest : List Entry) → Stands p c → rejections q.notes ≡ [] → stmt_fits p s ≡ true
      → Passed saved c (moved p (statement_count s)) c.blocks (entries_here q (statement_pieces depth s)) rest
  pass_stmt saved c p depth q (Assign l r) rest at only fits =
      let f = simple_parts p (Assign l r) refl fits in pass_simple saved c p q depth (own_text (Assign l r)) (Assign l r) rest at f refl (first_small (Assign l r) f.own) only
  pass_stmt saved c p depth q (If k a b) rest at only fits =
      let f = if_parts p k a b fits in
      pass_branch saved c p depth q k a b rest at f.branch only
      (λ d u more x y. pass_stmts saved d (in_if p 1) (suc depth) u a more x y f.then_part)
      (λ d u more x y. pass_stmts saved d (in_if p (1 + statements_count a)) (suc depth) u b more x y f.else_part)
  pass_stmt saved c p depth q (Do h body) rest at only fits =
      let f = do_parts p h body fits in
      pass_loop saved c p depth q h body rest at only f.0 (λ d u more x y. pass_stmts saved d (in_loop p h) (suc depth) u body more x y f.1)
  pass_stmt saved c p depth q (Print items) rest at only fits =
      let f = simple_parts p (Print items) refl fits in pass_simple saved c p q depth (own_text (Print items)) (Print items) rest at f refl (first_small (Print items) f.own) only
  pass_stmt saved c p depth q (Read items) rest at only fits =
      let f = simple_parts p (Read items) refl fits in pass_simple saved c p q depth (own_text (Read items)) (Read items) rest at f refl (first_small (Read items) f.own) only
  pass_stmt saved c p depth q Stop rest at only fits =
      let f = simple_parts p Stop refl fits in pass_simple saved c p q depth (own_text Stop) Stop rest at f refl (first_small Stop f.own) only
  pass_stmt saved c p depth q (Comment text) rest at only fits = at_place (sym (unmoved p)) (pass_none saved c p rest at)

  pub pass_stmts : (saved : List (List ℕ)) (c : Context) (p : Surroundings) (depth : ℕ) (q : Spot) (s : StmtTrees) (rest : List Entry) → Stands p c → rejections q.notes ≡ [] → stmts_fit p s ≡ true
      → Passed saved c (moved p (statements_count s)) c.blocks (entries_here q (statements_pieces depth s)) rest
  pass_stmts saved c p depth q no_stmts rest at only fits = at_place (sym (unmoved p)) (pass_none saved c p rest at)
  pass_stmts saved c p depth q (more_stmts s r) rest at only fits =
      let q1 = behind_pieces q (statement_pieces depth s) in
      let xs = statement_pieces depth s in
      let ys = statements_pieces depth r in
      let es = entries_here q xs in
      let fs = entries_here q1 ys in
      let behind_one = moved p (statement_count s) in
      let f = and_parts (stmt_fits p s) (stmts_fit behind_one r) fits in
      let first = pass_stmt saved c p depth q s (fs ++ rest) at only f.0 in
      let second = with_blocks first.blocks (pass_stmts saved first.after behind_one depth q1 r rest first.position (only_behind depth q s only) f.1) in
      let both = pass_both saved c behind_one (moved behind_one (statements_count r)) c.blocks c.blocks es fs rest first second in
      over_entries (sym (entries_both q xs ys)) (at_place (moved_both p (statement_count s) (statements_count r)) both)
