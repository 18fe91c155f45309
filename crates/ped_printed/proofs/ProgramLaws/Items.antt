-- Each kind of statement of a printed program is accepted where it stands.
use Rattle.std.proofs.Common.{◌≡◌, ℕ, suc, ◌+◌, List, [], ◌∷◌, ◌++◌, map, max, length, Option, None, Bool, true, false, cond, refl, sym, ap, ◌∙◌, append-nil, arith}
use Rattle.std.specs.Prelude.{not, ◌&&◌, ◌||◌, nat_lt, nat_le, is_none}
use Rattle.ped_lines.specs.ped_base.specs.Lists.{has_some, is_among}
use Rattle.ped_lines.specs.ped_tree.specs.Tree.{CondTree, Head, StmtTree, StmtTrees, If, Do, no_stmts}
use Rattle.ped_lines.specs.ped_tree.specs.Numbering.{statement_count}
use Rattle.ped_lines.specs.ped_tree.specs.Accesses.{own_accesses}
use Rattle.ped_lines.specs.ped_tree.specs.Grammar.Items.{Item, does, block_if, else_line, end_if, begins_do, ends_do, says, Entry}
use Rattle.ped_lines.specs.ped_tree.specs.Grammar.Statement.{Statement}
use Rattle.ped_lines.specs.ped_tree.specs.Grammar.Contexts.{OpenLoop, Block, in_then, in_else, in_do, Context, rank, numbered_in, saves_list, saves_without, is_stop, open_loops, open_variables, is_in_bare_do, without_do, begun, blocks_behind, behind_item}
use Rattle.ped_lines.specs.ped_tree.specs.Grammar.Occurrences.{constants_of}
use Rattle.ped_lines.specs.ped_tree.specs.Grammar.BlockForms.{entry, whole_head}
use Rattle.ped_lines.specs.ped_tree.specs.Grammar.ProgramRefusals.{is_out_of_order, lacks_if, lacks_do, is_late_private, breaks_syntax, leaves_open, assigned_by, meets, assigns_index, at_private, private_behind, loop_depth, block_depth, is_too_large, are_too_many, is_too_deep, has_many_references, is_too_long, passes_limit}
use Rattle.ped_lines.specs.Printed.Printed.{PrintedNote, a_rejection}
use Rattle.ped_lines.specs.Printed.Cut.{comments_at, directives_at}
use Rattle.ped_printed.proofs.ProgramLaws.Pieces.{Spot, statement_here}
use Rattle.ped_printed.proofs.ProgramLaws.Trees.{rejections}
use Rattle.ped_lines.specs.ped_tree.specs.Grammar.Fits.{Surroundings, moved, in_if, in_loop}
use Rattle.ped_printed.proofs.ProgramLaws.Fits.{SimpleFits, BranchFits, LoopFits}
use Rattle.ped_printed.proofs.ProgramLaws.FormsOf.{first_small}
use Rattle.ped_printed.proofs.ProgramLaws.KeptPrivate.{open_private, kept_never, kept_nowhere}
use Rattle.ped_printed.proofs.ProgramLaws.Standing.{Stands, early, in_order, still, loops_open, passes_all, undirected, directed, Passed, pass_one}

-- an executable statement is in its place

pub in_place : (c : Context) (i : Item) → nat_le c.phase 4 ≡ true → rank i ≡ 4 → lacks_if c.blocks i ≡ false → is_late_private c.behind_do i ≡ false → saves_list i ≡ false → saves_without i ≡ false → lacks_do c.blocks None i ≡ false → breaks_syntax c None (says i) ≡ false
in_place c i phase four lacks late list without ends =
    let before = early c.phase phase in
    let order : is_out_of_order c.phase (rank i) ≡ false = ap (is_out_of_order c.phase) four ∙ in_order c.phase phase in
    λ j. not false && (before j || false || (order j || lacks j || late j || ((list j && c.saves_everything) || (without j && (c.saves_names || c.saves_everything))) || ends j))

pub within_limit : (saved : List (List ℕ)) (c : Context) (rest : List Entry) (i : Item) → is_too_large i ≡ false → are_too_many c.statements i ≡ false → is_too_deep c.blocks i ≡ false
    → has_many_references c.constants (open_variables c.blocks) (private_behind rest) i ≡ false → is_too_long saved i ≡ false → passes_limit saved c rest i ≡ false
within_limit saved c rest i a b d r l = λ j. a j || b j || d j || r j || l j

pub or_none : (a : Bool) → a ≡ false → (a || false) ≡ false
or_none true h = absurd cc
or_none false h = refl

few_more : (n : ℕ) (p : ℕ) (k : ℕ) → n ≡ p → k ≡ 1 → nat_lt 4000 (p + 1) ≡ false → (nat_lt 0 k && nat_lt 4000 (n + k)) ≡ false
few_more n p k e f h = (λ j. nat_lt 0 (f j) && nat_lt 4000 (e j + f j)) ∙ h

-- behind a statement

pub next_stands : (p q : Surroundings) (c : Context) (s : Statement) (i : Item) (bs : List Block) → Stands p c → rank i ≡ 4 → constants_of i ≡ [] → blocks_behind c.behind_do s i c.blocks ≡ bs
    → p.constants ≡ q.constants → open_variables bs ≡ q.variables → open_private bs ≡ q.private → block_depth bs ≡ q.depth → p.statements + numbered_in i ≡ q.statements → Stands q (behind_item c s i)
next_stands p q c s i bs at four none blocks constants variables private depth statements = record {
  constants = ap (λ (ks : List (List ℕ)). c.constants ++ ks) none ∙ append-nil c.constants ∙ at.constants ∙ constants;
  variables = ap open_variables blocks ∙ variables;
  private = ap open_private blocks ∙ private;
  depth = ap block_depth blocks ∙ depth;
  statements = ap (λ n. n + numbered_in i) at.statements ∙ statements;
  phase = ap (λ n. nat_le (max c.phase n) 4) four ∙ still c.phase at.phase;
}

pub some_open : {A : Type 0} (xs : List A) → nat_lt 0 (length xs) ≡ has_some xs
some_open [] = refl
some_open (x ∷ xs) = under (length xs)
  where
    under : (n : ℕ) → nat_lt 0 (suc n) ≡ true
    under n = grind arith

-- an assignment, PRINT, READ or STOP
pub pass_simple : (saved : List (List ℕ)) (c : Context) (p : Surroundings) (q : Spot) (depth : ℕ) (text : List ℕ) (s : StmtTree) (rest : List Entry) → Stands p c → SimpleFits p s
    → statement_count s ≡ 1 → is_too_large (does s) ≡ false → rejections q.notes ≡ []
    → Passed saved c (moved p 1) c.blocks (entry (statement_here q depth text) (does s) ∷ []) rest
pass_simple saved c p q depth text s rest at fits one small only =
    let st = statement_here q depth text in
    let e = entry st (does s) in
    let index : assigns_index c e.reading ≡ false = (let v = at.variables in λ j. meets (append-nil (assigned_by s) j) (v j)) ∙ fits.index in
    let stop : (is_stop s && nat_lt 0 (loop_depth c.blocks)) ≡ false = (let v = loops_open c.blocks ∙ ap length at.variables in λ j. is_stop s && nat_lt 0 (v j)) ∙ ap (λ b. is_stop s && b) (some_open p.variables) ∙ fits.stops in
    let many : are_too_many c.statements (does s) ≡ false = few_more c.statements p.statements (statement_count s) at.statements one fits.within.few in
    let refers : has_many_references c.constants (open_variables c.blocks) (private_behind rest) (does s) ≡ false = (let k = at.constants in let v = at.variables in λ j. nat_lt 64 (length (own_accesses (k j) (v j) s)) || false) ∙ or_none _ fits.within.referring in
    let long : is_too_long saved (does s) ≡ false = or_none _ fits.within.short in
    let ok = passes_all saved c e rest (undirected c e q.line q.notes refl only) (in_place c (does s) at.phase refl refl refl refl refl refl) refl refl refl index (kept_never (open_loops c.blocks)) stop (within_limit saved c rest (does s) small many refl refers long) in
    let next = next_stands p (moved p 1) c st (does s) c.blocks at refl refl refl refl at.variables at.private at.depth (ap (λ n. p.statements + n) one) in
    pass_one saved c (moved p 1) c.blocks e rest ok next refl

-- IF with THEN
pub pass_if : (saved : List (List ℕ)) (c : Context) (p : Surroundings) (q : Spot) (depth : ℕ) (text : List ℕ) (k : CondTree) (a b : StmtTrees) (rest : List Entry) → Stands p c → BranchFits p (If k a b) → rejections q.notes ≡ []
    → Passed saved c (in_if p 1) (in_then 1 ∷ c.blocks) (entry (statement_here q depth text) (block_if k) ∷ []) rest
pass_if saved c p q depth text k a b rest at fits only =
    let i = block_if k in
    let st = statement_here q depth text in
    let e = entry st i in
    let deep : is_too_deep c.blocks i ≡ false = (let d = at.depth in λ j. false || (true && nat_le 100 (d j))) ∙ fits.shallow in
    let many : are_too_many c.statements i ≡ false = few_more c.statements p.statements 1 at.statements refl fits.within.few in
    let refers : has_many_references c.constants (open_variables c.blocks) (private_behind rest) i ≡ false = (let ks = at.constants in let v = at.variables in λ j. nat_lt 64 (length (own_accesses (ks j) (v j) (If k a b))) || false) ∙ or_none _ fits.within.referring in
    let long : is_too_long saved i ≡ false = or_none _ fits.within.short in
    let ok = passes_all saved c e rest (undirected c e q.line q.notes refl only) (in_place c i at.phase refl refl refl refl refl refl) refl refl refl refl (kept_never (open_loops c.blocks)) refl (within_limit saved c rest i (first_small (If k a b) fits.own) many deep refers long) in
    let next = next_stands p (in_if p 1) c st i (in_then 1 ∷ c.blocks) at refl refl refl refl at.variables at.private (ap (λ n. n + 1) at.depth) refl in
    pass_one saved c (in_if p 1) (in_then 1 ∷ c.blocks) e rest ok next refl

-- ELSE
pub pass_else : (saved : List (List ℕ)) (c : Context) (p : Surroundings) (q : Spot) (depth : ℕ) (text : List ℕ) (bs : List Block) (rest : List Entry) → Stands p c → c.blocks ≡ in_then 1 ∷ bs → rejections q.notes ≡ []
    → Passed saved c (moved p 0) (in_else 1 ∷ bs) (entry (statement_here q depth text) else_line ∷ []) rest
pass_else saved c p q depth text bs rest at inside only =
    let i = else_line in
    let st = statement_here q depth text in
    let e = entry st i in
    let lacks : lacks_if c.blocks i ≡ false = ap (λ (b : List Block). lacks_if b else_line) inside in
    let closes : leaves_open c.blocks i ≡ false = ap (λ (b : List Block). leaves_open b else_line) inside in
    let blocks : blocks_behind c.behind_do st i c.blocks ≡ in_else 1 ∷ bs = ap (λ (b : List Block). blocks_behind c.behind_do st else_line b) inside in
    let ok = passes_all saved c e rest (undirected c e q.line q.notes refl only) (in_place c i at.phase refl lacks refl refl refl refl) refl closes refl refl (kept_never (open_loops c.blocks)) refl (within_limit saved c rest i refl refl refl refl refl) in
    let variables = sym (ap open_variables inside) ∙ at.variables in
    let private = sym (ap open_private inside) ∙ at.private in
    let depths = sym (ap block_depth inside) ∙ at.depth in
    let next = next_stands p (moved p 0) c st i (in_else 1 ∷ bs) at refl refl blocks refl variables private depths refl in
    pass_one saved c (moved p 0) (in_else 1 ∷ bs) e rest ok next blocks

-- an IF whose part is open
pub data IsIf (b : Block) : Type 0 where
  then_part : b ≡ in_then 1 → IsIf b
  else_part : b ≡ in_else 1 → IsIf b

-- END IF
pub pass_end_if : (saved : List (List ℕ)) (c : Context) (p : Surroundings) (n : ℕ) (q : Spot) (depth : ℕ) (text : List ℕ) (b : Block) (bs : List Block) (rest : List Entry) → Stands (in_if p n) c → IsIf b → c.blocks ≡ b ∷ bs
    → open_variables bs ≡ p.variables → open_private bs ≡ p.private → block_depth bs ≡ p.depth → rejections q.notes ≡ []
    → Passed saved c (moved p n) bs (entry (statement_here q depth text) end_if ∷ []) rest
pass_end_if saved c p n q depth text b bs rest at kind inside variables private depths only =
    let i = end_if in
    let st = statement_here q depth text in
    let e = entry st i in
    let known : (r : Block → Bool) → r (in_then 1) ≡ false → r (in_else 1) ≡ false → r b ≡ false = λ r x y. elim kind as (λ kind. r b ≡ false) [ then_part h ↦ ap r h ∙ x | else_part h ↦ ap r h ∙ y ] in
    let same : (b : Block) → IsIf b → blocks_behind c.behind_do st end_if (b ∷ bs) ≡ bs = λ b k. elim k as (λ k. blocks_behind c.behind_do st end_if (b ∷ bs) ≡ bs) [
      | then_part h ↦ ap (λ (x : Block). blocks_behind c.behind_do st end_if (x ∷ bs)) h
      | else_part h ↦ ap (λ (x : Block). blocks_behind c.behind_do st end_if (x ∷ bs)) h
    ] in
    let lacks : lacks_if c.blocks i ≡ false = ap (λ (xs : List Block). lacks_if xs end_if) inside ∙ known (λ x. lacks_if (x ∷ bs) end_if) refl refl in
    let closes : leaves_open c.blocks i ≡ false = ap (λ (xs : List Block). leaves_open xs end_if) inside ∙ known (λ x. leaves_open (x ∷ bs) end_if) refl refl in
    let blocks : blocks_behind c.behind_do st i c.blocks ≡ bs = ap (λ (xs : List Block). blocks_behind c.behind_do st end_if xs) inside ∙ same b kind in
    let ok = passes_all saved c e rest (undirected c e q.line q.notes refl only) (in_place c i at.phase refl lacks refl refl refl refl) refl closes refl refl (kept_never (open_loops c.blocks)) refl (within_limit saved c rest i refl refl refl refl refl) in
    let next = next_stands (in_if p n) (moved p n) c st i bs at refl refl blocks refl variables private depths (plus_none (p.statements + n)) in
    pass_one saved c (moved p n) bs e rest ok next blocks
  where
    plus_none : (k : ℕ) → k + 0 ≡ k
    plus_none k = omega arith

-- a loop whose PRIVATE hasn't come
abbrev pub new_loop : Head → OpenLoop
new_loop h = begun None (whole_head h [] [])

-- DO
pub pass_do : (saved : List (List ℕ)) (c : Context) (p : Surroundings) (q : Spot) (ns : List PrintedNote) (depth : ℕ) (text : List ℕ) (h : Head) (body : StmtTrees) (rest : List Entry) → Stands p c → LoopFits p h body
    → q.notes ≡ ns ++ map a_rejection h.rejected → rejections ns ≡ [] → private_behind rest ≡ h.private
    → (x : Passed saved c (in_loop p (whole_head h [] [])) (in_do (new_loop h) ∷ c.blocks) (entry (statement_here q depth text) (begins_do None (whole_head h [] [])) ∷ []) rest) × (x.after.behind_do ≡ true)
pass_do saved c p q ns depth text h body rest at fits notes only private =
    let i = begins_do None (whole_head h [] []) in
    let st = statement_here q depth text in
    let e = entry st i in
    let bs : List Block = in_do (new_loop h) ∷ c.blocks in
    let before_end = early c.phase at.phase in
    let directives = directed c e q.line ns h.rejected before_end refl (ap (comments_at q.line) notes) (ap (directives_at q.line) notes) (ap (λ (xs : List PrintedNote). q.line + length xs) notes) only fits.rejected in
    let index : assigns_index c e.reading ≡ false = (let v = at.variables in λ j. is_among h.variable (v j) || false) ∙ or_none _ fits.index in
    let kept : at_private c e.reading ≡ [] = kept_nowhere h.variable (open_loops c.blocks) (ap (is_among h.variable) at.private ∙ fits.kept) in
    let loop_deep : nat_le 6 (loop_depth c.blocks) ≡ false = ap (nat_le 6) (loops_open c.blocks ∙ ap length at.variables) ∙ fits.shallow in
    let deep : is_too_deep c.blocks i ≡ false = (let d = at.depth in λ j. (true && loop_deep j) || (true && nat_le 100 (d j))) ∙ fits.shallow_blocks in
    let many : are_too_many c.statements i ≡ false = few_more c.statements p.statements 1 at.statements refl fits.within.few in
    let refers : has_many_references c.constants (open_variables c.blocks) (private_behind rest) i ≡ false =
    (let k = at.constants in let v = at.variables in λ j. nat_lt 64 (length (own_accesses (k j) (v j) (Do (whole_head h (private j) []) no_stmts))) || false) ∙ or_none _ fits.within.referring in
    let long : is_too_long saved i ≡ false = or_none _ fits.within.short in
    let small = first_small (Do h body) fits.own in
    let ok = passes_all saved c e rest directives (in_place c i at.phase refl refl refl refl refl refl) refl refl refl index kept refl (within_limit saved c rest i small many deep refers long) in
    let next = next_stands p (in_loop p (whole_head h [] [])) c st i bs at refl refl refl refl (ap (λ (vs : List (List ℕ)). h.variable ∷ vs) at.variables) at.private (ap (λ n. n + 1) at.depth) refl in
    (pass_one saved c (in_loop p (whole_head h [] [])) bs e rest ok next refl, refl)

-- the END DO of a DO
pub pass_end_do : (saved : List (List ℕ)) (c : Context) (p q : Surroundings) (d : OpenLoop) (bs : List Block) (t : Spot) (depth : ℕ) (text : List ℕ) (rest : List Entry) → Stands p c → c.blocks ≡ in_do d ∷ bs → d.label ≡ None
    → p.constants ≡ q.constants → open_variables bs ≡ q.variables → open_private bs ≡ q.private → block_depth bs ≡ q.depth → p.statements ≡ q.statements
    → rejections t.notes ≡ [] → Passed saved c q bs (entry (statement_here t depth text) ends_do ∷ []) rest
pass_end_do saved c p q d bs t depth text rest at inside same constants variables private depths statements only =
    let st = statement_here t depth text in
    let e = entry st ends_do in
    let bare : is_in_bare_do c.blocks ≡ true = ap is_in_bare_do inside ∙ ap is_none same in
    let ends : lacks_do c.blocks None ends_do ≡ false = ap not bare in
    let left : blocks_behind c.behind_do st ends_do c.blocks ≡ bs = ap without_do inside ∙ ap (λ (l : Option ℕ). cond (is_none l) bs (in_do d ∷ bs)) same in
    let ok = passes_all saved c e rest (undirected c e t.line t.notes refl only) (in_place c ends_do at.phase refl refl refl refl refl ends) refl refl refl refl (kept_never (open_loops c.blocks)) refl (within_limit saved c rest ends_do refl refl refl refl refl) in
    let next = next_stands p q c st ends_do bs at refl refl left constants variables private depths (plus_none p.statements ∙ statements) in
    pass_one saved c q bs e rest ok next left
  where
    plus_none : (k : ℕ) → k + 0 ≡ k
    plus_none k = omega arith
