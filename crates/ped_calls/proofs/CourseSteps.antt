-- How room and names go along while statements are expanded one behind the other.
use Rattle.std.proofs.Common.{◌≡◌, ◌≤◌, ◌+◌, ℕ, List, [], ◌∷◌, ◌++◌, map, refl, sym, ap, subst, ◌∙◌, arith}
use Rattle.std.specs.Prelude.{Result, Ok, Err, IfErr, IsErrAnd}
use Rattle.ped_tree.specs.Tree.{CondTree, Head, StmtTree, StmtTrees, If, Do, no_stmts, more_stmts}
use Rattle.std.proofs.lemmas.List.{map_push}
use Rattle.ped_tree.specs.Views.{stmt_tree, pack_stmts}
use Rattle.ped_tree.specs.declared.statements.Stmt.{Stmt}
use Rattle.ped_tree.specs.Numbering.{statement_count, statements_count}
use Rattle.ped_links.specs.ped_units.specs.Forms.{Called}
use Rattle.ped_links.specs.ped_units.specs.Expanding.{Given, Meanings, Expanded, AllExpanded, behind_stmts, cond_replaced, head_replaced, expanded_in, all_expanded_in}
use Rattle.ped_calls.specs.Giving.{given_of}
use Rattle.ped_calls.specs.Courses.{IsUnderWay, GoesOn, Passes, too_many, too_deep, IsTooDeep, AreTooDeep, StopsAt, ExpandsOn}
use Rattle.ped_calls.specs.declared.expanding.Course.{Course}
use Rattle.ped_calls.specs.declared.expanding.Stopped.{Stopped}
use Rattle.ped_calls.specs.declared.expanding.Stopped.TheVariants.{Past, OutOfMemory}
use Rattle.ped_calls.proofs.Expansions.{Counts, all_grow, deep_behind, deep_before, deep_then, deep_else, deep_loop}

-- why it stopped, said of more
pub stops_by : {P Q : Type 0} (e : Stopped) → (P → Q) → StopsAt e P → StopsAt e Q
stops_by Past f h = f h
stops_by OutOfMemory f h = tt

-- memory ran out
pub stops_here : (P : Type 0) (e : Stopped) → e ≡ OutOfMemory → StopsAt e P
stops_here P Past h = absurd cc
stops_here P OutOfMemory h = tt

-- what is handed on of an error
pub err_passes : {T E : Type 0} (r : Result T E) (e : E) (P : E → Type 0) → IsErrAnd r (λ y. y ≡ e) → P e → IfErr r P
err_passes (Ok x) e P h p = absurd h
err_passes (Err y) e P h p = subst P (sym h) p

-- the same of why it stopped
pub stopped_passes : {T : Type 0} (r : Result T Stopped) (e : Stopped) (P : Type 0) → IsErrAnd r (λ y. y ≡ e) → StopsAt e P → IfErr r (λ y. StopsAt y P)
stopped_passes r e P h p = err_passes r e (λ y. StopsAt y P) h p

behind_last : (done : List StmtTree) (s : StmtTree) (rest : StmtTrees) → behind_stmts (done ++ s ∷ []) rest ≡ behind_stmts done (more_stmts s rest)
behind_last [] s rest = refl
behind_last (d ∷ done) s rest = ap (more_stmts d) (behind_last done s rest)

-- a copy behind others
pub behind_pushed : (done : List Stmt) (s : Stmt) (t : StmtTree) (rest : StmtTrees) → stmt_tree s ≡ t → behind_stmts (map stmt_tree (done ++ s ∷ [])) rest ≡ behind_stmts (map stmt_tree done) (more_stmts t rest)
behind_pushed done s t rest h =
    ap (λ (ss : List StmtTree). behind_stmts ss rest) (map_push stmt_tree done s)
    ∙ behind_last (map stmt_tree done) (stmt_tree s) rest
    ∙ ap (λ (u : StmtTree). behind_stmts (map stmt_tree done) (more_stmts u rest)) h

-- statements packed are those behind which nothing stands
pub packed_behind : (ss : List StmtTree) → pack_stmts ss ≡ behind_stmts ss no_stmts
packed_behind [] = refl
packed_behind (s ∷ ss) = ap (more_stmts s) (packed_behind ss)

-- an expanded statement before others
abbrev before : Expanded Given → AllExpanded Given → AllExpanded Given
before e rest = record { statements = more_stmts e.statement rest.statements; state = rest.state }

module _ (m : Meanings) (f : Called → Given → Expanded Given) (all : StmtTrees) (old : Course) where
  -- at first
  pub expands_first : IsUnderWay old → ExpandsOn m f all old all [] old
  expands_first h = record { statements = refl; state = refl; room = omega arith; underway = h }

  one_more : (left rest : StmtTrees) (s : StmtTree) (g h : Given) → left ≡ more_stmts s rest → h ≡ (expanded_in m f s g).state
      → all_expanded_in m f left g ≡ before (expanded_in m f s g) (all_expanded_in m f rest h)
  one_more left rest s g h l is =
      ap (λ (ss : StmtTrees). all_expanded_in m f ss g) l
      ∙ ap (λ (k : Given). before (expanded_in m f s g) (all_expanded_in m f rest k)) (sym is)

  -- one statement more
  pub expands_more : (left rest : StmtTrees) (s : StmtTree) (done more : List StmtTree) (new next : Course)
      → ExpandsOn m f all old left done new
      → left ≡ more_stmts s rest
      → more ≡ done ++ (expanded_in m f s (given_of new.given)).statement ∷ []
      → GoesOn new next (statement_count s) (statement_count (expanded_in m f s (given_of new.given)).statement) (expanded_in m f s (given_of new.given)).state
      → ExpandsOn m f all old rest more next
  expands_more left rest s done more new next inv l hm goes =
      let e = expanded_in m f s (given_of new.given) in
      let r = all_expanded_in m f rest (given_of next.given) in
      let shape = one_more left rest s (given_of new.given) (given_of next.given) l goes.given in
      let counted : statements_count (all_expanded_in m f left (given_of new.given)).statements ≡ statement_count e.statement + statements_count r.statements =
      ap (λ (x : AllExpanded Given). statements_count x.statements) shape in
      let counted_left : statements_count left ≡ statement_count s + statements_count rest = ap statements_count l in
      let was = inv.room in
      let took = goes.room in
      record {
        statements =
            ap (λ (ss : List StmtTree). behind_stmts ss r.statements) hm
            ∙ behind_last done e.statement r.statements
            ∙ ap (λ (x : AllExpanded Given). behind_stmts done x.statements) (sym shape)
            ∙ inv.statements;
        state = ap (λ (x : AllExpanded Given). x.state) (sym shape) ∙ inv.state;
        room = omega (arith, counted, counted_left, was, took);
        underway = goes.underway;
      }

  none_more : (left : StmtTrees) (g : Given) → left ≡ no_stmts → all_expanded_in m f left g ≡ record { statements = no_stmts; state = g }
  none_more left g l = ap (λ (ss : StmtTrees). all_expanded_in m f ss g) l

  -- all statements
  pub expands_all : (left : StmtTrees) (done : List StmtTree) (new : Course) → ExpandsOn m f all old left done new → left ≡ no_stmts
      → behind_stmts done no_stmts ≡ (all_expanded_in m f all (given_of old.given)).statements
  expands_all left done new inv l =
      ap (λ (x : AllExpanded Given). behind_stmts done x.statements) (sym (none_more left (given_of new.given) l)) ∙ inv.statements

  -- what goes on behind all statements
  pub goes_on : (left : StmtTrees) (done : List StmtTree) (new : Course) → ExpandsOn m f all old left done new → left ≡ no_stmts
      → GoesOn old new (statements_count all) (statements_count (all_expanded_in m f all (given_of old.given)).statements) (all_expanded_in m f all (given_of old.given)).state
  goes_on left done new inv l =
      let counted : statements_count (all_expanded_in m f left (given_of new.given)).statements ≡ 0 = ap (λ (x : AllExpanded Given). statements_count x.statements) (none_more left (given_of new.given) l) in
      let counted_left : statements_count left ≡ 0 = ap statements_count l in
      let was = inv.room in
      record {
        given = ap (λ (x : AllExpanded Given). x.state) (sym (none_more left (given_of new.given) l)) ∙ inv.state;
        room = omega (arith, counted, counted_left, was);
        underway = inv.underway;
      }

  -- a limit is passed at one of the statements
  pub expands_past : (depth : ℕ) (left rest : StmtTrees) (s : StmtTree) (done : List StmtTree) (new : Course)
      → Counts f
      → ExpandsOn m f all old left done new
      → left ≡ more_stmts s rest
      → Passes new.room (statement_count s) (statement_count (expanded_in m f s (given_of new.given)).statement) (IsTooDeep depth (expanded_in m f s (given_of new.given)).statement)
      → Passes old.room (statements_count all) (statements_count (all_expanded_in m f all (given_of old.given)).statements) (AreTooDeep depth (all_expanded_in m f all (given_of old.given)).statements)
  expands_past depth left rest s done new counts inv l (too_many h) =
      let e = expanded_in m f s (given_of new.given) in
      let r = all_expanded_in m f rest e.state in
      let shape = one_more left rest s (given_of new.given) e.state l refl in
      let counted : statements_count (all_expanded_in m f left (given_of new.given)).statements ≡ statement_count e.statement + statements_count r.statements =
      ap (λ (x : AllExpanded Given). statements_count x.statements) shape in
      let counted_left : statements_count left ≡ statement_count s + statements_count rest = ap statements_count l in
      let more : statements_count rest ≤ statements_count r.statements = all_grow m f counts rest e.state in
      let was = inv.room in
      too_many (omega (arith, counted, counted_left, more, was, h))
  expands_past depth left rest s done new counts inv l (too_deep h) =
      let e = expanded_in m f s (given_of new.given) in
      let r = all_expanded_in m f rest e.state in
      let shape = one_more left rest s (given_of new.given) e.state l refl in
      let whole : behind_stmts done (more_stmts e.statement r.statements) ≡ (all_expanded_in m f all (given_of old.given)).statements =
      ap (λ (x : AllExpanded Given). behind_stmts done x.statements) (sym shape) ∙ inv.statements in
      too_deep (subst (AreTooDeep depth) whole (deep_behind depth done (more_stmts e.statement r.statements) (deep_before depth e.statement r.statements h)))

module _ (m : Meanings) (f : Called → Given → Expanded Given) (counts : Counts f) (old : Course) where
  -- both parts of an IF
  pub if_goes : (c : CondTree) (a b : StmtTrees) (mid new : Course)
      → GoesOn old mid (statements_count a) (statements_count (all_expanded_in m f a (given_of old.given)).statements) (all_expanded_in m f a (given_of old.given)).state
      → GoesOn mid new (statements_count b) (statements_count (all_expanded_in m f b (given_of mid.given)).statements) (all_expanded_in m f b (given_of mid.given)).state
      → GoesOn old new (statement_count (If c a b)) (statement_count (expanded_in m f (If c a b) (given_of old.given)).statement) (expanded_in m f (If c a b) (given_of old.given)).state
  if_goes c a b mid new first second =
      let same : statements_count (all_expanded_in m f b (given_of mid.given)).statements ≡ statements_count (all_expanded_in m f b (all_expanded_in m f a (given_of old.given)).state).statements =
      ap (λ (g : Given). statements_count (all_expanded_in m f b g).statements) first.given in
      let one = first.room in
      let two = second.room in
      record {
        given = second.given ∙ ap (λ (g : Given). (all_expanded_in m f b g).state) first.given;
        room = omega (arith, same, one, two);
        underway = second.underway;
      }

  -- an IF of its parts
  pub if_made : (c : CondTree) (a b : StmtTrees) (mid : Course) (s : StmtTree) (t e : StmtTrees)
      → given_of mid.given ≡ (all_expanded_in m f a (given_of old.given)).state
      → t ≡ (all_expanded_in m f a (given_of old.given)).statements
      → e ≡ (all_expanded_in m f b (given_of mid.given)).statements
      → s ≡ If (cond_replaced m c) t e
      → s ≡ (expanded_in m f (If c a b) (given_of old.given)).statement
  if_made c a b mid s t e g ht he h =
      h ∙ ap (λ (x : StmtTrees). If (cond_replaced m c) x e) ht
      ∙ ap (λ (x : StmtTrees). If (cond_replaced m c) (all_expanded_in m f a (given_of old.given)).statements x) (he ∙ ap (λ (k : Given). (all_expanded_in m f b k).statements) g)

  -- a limit is passed in the THEN part
  pub then_past : (depth : ℕ) (c : CondTree) (a b : StmtTrees)
      → Passes old.room (statements_count a) (statements_count (all_expanded_in m f a (given_of old.given)).statements) (AreTooDeep depth (all_expanded_in m f a (given_of old.given)).statements)
      → Passes old.room (statement_count (If c a b)) (statement_count (expanded_in m f (If c a b) (given_of old.given)).statement) (IsTooDeep depth (expanded_in m f (If c a b) (given_of old.given)).statement)
  then_past depth c a b (too_many h) =
      let more : statements_count b ≤ statements_count (all_expanded_in m f b (all_expanded_in m f a (given_of old.given)).state).statements = all_grow m f counts b _ in
      too_many (omega (arith, h, more))
  then_past depth c a b (too_deep h) = too_deep (deep_then depth (cond_replaced m c) (all_expanded_in m f a (given_of old.given)).statements (all_expanded_in m f b (all_expanded_in m f a (given_of old.given)).state).statements h)

  -- a limit is passed in the ELSE part
  pub else_past : (depth : ℕ) (c : CondTree) (a b : StmtTrees) (mid : Course)
      → GoesOn old mid (statements_count a) (statements_count (all_expanded_in m f a (given_of old.given)).statements) (all_expanded_in m f a (given_of old.given)).state
      → Passes mid.room (statements_count b) (statements_count (all_expanded_in m f b (given_of mid.given)).statements) (AreTooDeep depth (all_expanded_in m f b (given_of mid.given)).statements)
      → Passes old.room (statement_count (If c a b)) (statement_count (expanded_in m f (If c a b) (given_of old.given)).statement) (IsTooDeep depth (expanded_in m f (If c a b) (given_of old.given)).statement)
  else_past depth c a b mid first (too_many h) =
      let same : statements_count (all_expanded_in m f b (given_of mid.given)).statements ≡ statements_count (all_expanded_in m f b (all_expanded_in m f a (given_of old.given)).state).statements =
      ap (λ (g : Given). statements_count (all_expanded_in m f b g).statements) first.given in
      let one = first.room in
      too_many (omega (arith, same, one, h))
  else_past depth c a b mid first (too_deep h) =
      too_deep (deep_else depth (cond_replaced m c) (all_expanded_in m f a (given_of old.given)).statements (all_expanded_in m f b (all_expanded_in m f a (given_of old.given)).state).statements (subst (λ (g : Given). AreTooDeep depth (all_expanded_in m f b g).statements) first.given h))

  -- the body of a loop
  pub do_goes : (h : Head) (b : StmtTrees) (new : Course)
      → GoesOn old new (statements_count b) (statements_count (all_expanded_in m f b (given_of old.given)).statements) (all_expanded_in m f b (given_of old.given)).state
      → GoesOn old new (statement_count (Do h b)) (statement_count (expanded_in m f (Do h b) (given_of old.given)).statement) (expanded_in m f (Do h b) (given_of old.given)).state
  do_goes h b new body = let one = body.room in record { given = body.given; room = omega (arith, one); underway = body.underway }

  -- a limit is passed in a loop
  pub do_past : (depth : ℕ) (h : Head) (b : StmtTrees)
      → Passes old.room (statements_count b) (statements_count (all_expanded_in m f b (given_of old.given)).statements) (AreTooDeep depth (all_expanded_in m f b (given_of old.given)).statements)
      → Passes old.room (statement_count (Do h b)) (statement_count (expanded_in m f (Do h b) (given_of old.given)).statement) (IsTooDeep depth (expanded_in m f (Do h b) (given_of old.given)).statement)
  do_past depth h b (too_many k) = too_many (omega (arith, k))
  do_past depth h b (too_deep k) = too_deep (deep_loop depth (head_replaced m h) (all_expanded_in m f b (given_of old.given)).statements k)

  -- a limit is passed in the THEN part of a statement
  pub then_stops : (depth : ℕ) (c : CondTree) (a b : StmtTrees) (s : StmtTree) (x : StmtTrees) → s ≡ If c a b → x ≡ a
      → Passes old.room (statements_count x) (statements_count (all_expanded_in m f x (given_of old.given)).statements) (AreTooDeep depth (all_expanded_in m f x (given_of old.given)).statements)
      → Passes old.room (statement_count s) (statement_count (expanded_in m f s (given_of old.given)).statement) (IsTooDeep depth (expanded_in m f s (given_of old.given)).statement)
  then_stops depth c a b s x is at h =
      subst (λ (t : StmtTree). Passes old.room (statement_count t) (statement_count (expanded_in m f t (given_of old.given)).statement) (IsTooDeep depth (expanded_in m f t (given_of old.given)).statement)) (sym is)
      (then_past depth c a b
      (subst (λ (t : StmtTrees). Passes old.room (statements_count t) (statements_count (all_expanded_in m f t (given_of old.given)).statements) (AreTooDeep depth (all_expanded_in m f t (given_of old.given)).statements)) at h))

  -- in its ELSE part
  pub else_stops : (depth : ℕ) (c : CondTree) (a b : StmtTrees) (mid : Course) (s : StmtTree) (x y : StmtTrees) → s ≡ If c a b → x ≡ a → y ≡ b
      → GoesOn old mid (statements_count x) (statements_count (all_expanded_in m f x (given_of old.given)).statements) (all_expanded_in m f x (given_of old.given)).state
      → Passes mid.room (statements_count y) (statements_count (all_expanded_in m f y (given_of mid.given)).statements) (AreTooDeep depth (all_expanded_in m f y (given_of mid.given)).statements)
      → Passes old.room (statement_count s) (statement_count (expanded_in m f s (given_of old.given)).statement) (IsTooDeep depth (expanded_in m f s (given_of old.given)).statement)
  else_stops depth c a b mid s x y is at also first h =
      subst (λ (t : StmtTree). Passes old.room (statement_count t) (statement_count (expanded_in m f t (given_of old.given)).statement) (IsTooDeep depth (expanded_in m f t (given_of old.given)).statement)) (sym is)
      (else_past depth c a b mid
      (subst (λ (t : StmtTrees). GoesOn old mid (statements_count t) (statements_count (all_expanded_in m f t (given_of old.given)).statements) (all_expanded_in m f t (given_of old.given)).state) at first)
      (subst (λ (t : StmtTrees). Passes mid.room (statements_count t) (statements_count (all_expanded_in m f t (given_of mid.given)).statements) (AreTooDeep depth (all_expanded_in m f t (given_of mid.given)).statements)) also h))

  -- in the body of a loop
  pub do_stops : (depth : ℕ) (h : Head) (b : StmtTrees) (s : StmtTree) (x : StmtTrees) → s ≡ Do h b → x ≡ b
      → Passes old.room (statements_count x) (statements_count (all_expanded_in m f x (given_of old.given)).statements) (AreTooDeep depth (all_expanded_in m f x (given_of old.given)).statements)
      → Passes old.room (statement_count s) (statement_count (expanded_in m f s (given_of old.given)).statement) (IsTooDeep depth (expanded_in m f s (given_of old.given)).statement)
  do_stops depth h b s x is at p =
      subst (λ (t : StmtTree). Passes old.room (statement_count t) (statement_count (expanded_in m f t (given_of old.given)).statement) (IsTooDeep depth (expanded_in m f t (given_of old.given)).statement)) (sym is)
      (do_past depth h b
      (subst (λ (t : StmtTrees). Passes old.room (statements_count t) (statements_count (all_expanded_in m f t (given_of old.given)).statements) (AreTooDeep depth (all_expanded_in m f t (given_of old.given)).statements)) at p))

-- a statement without CALLs takes no room
pub stays : (old : Course) (n : ℕ) (g : Given) → IsUnderWay old → given_of old.given ≡ g → GoesOn old old n n g
stays old n g h k = record { given = k; room = refl; underway = h }
