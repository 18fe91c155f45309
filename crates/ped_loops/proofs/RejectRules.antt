-- The rules that stand against `reject`, one behind the other; and that it is lawful.
use Rattle.std.proofs.Common.{◌≡◌, ◌⊎◌, ℕ, List, [], ◌∷◌, ◌++◌, map, filter, cond, All, Bool, true, false, ◌&&◌, ◌||◌, Some, if◌then◌else◌, refl, sym, ap, ◌∙◌, subst, inl, inr, arith}
use Rattle.std.specs.List.{list_any}
use Rattle.std.proofs.lemmas.Bool.{and_parts, both_ways}
use Rattle.std.proofs.lemmas.List.Elements.{All-nil, All-cons, All-head, All-tail}
use Rattle.ped_base.specs.Lists.{is_same_text, is_among}
use Rattle.ped_base.proofs.NameEquality.{same_is}
use Rattle.ped_tree.specs.Tree.{Head, StmtTree, StmtTrees, Do, ProgramTree}
use Rattle.ped_tree.specs.Views.{stmt_tree, stmt_trees}
use Rattle.ped_tree.specs.Accesses.{constant_names}
use Rattle.ped_tree.specs.Grammar.Words.{is_name}
use Rattle.ped_tree.specs.NamesIn.{stmts_names}
use Rattle.ped_tree.specs.declared.statements.Stmt.{Stmt}
use Rattle.ped_rules.specs.ped_laws.specs.Acts.Orders.{IsIn}
use Rattle.ped_rules.specs.ped_graph.specs.Dependences.{AreEdges}
use Rattle.ped_rules.specs.ped_graph.specs.DependencePane as pane
use Rattle.ped_edges.specs.Edges.{Edge}
use Rattle.ped_rules.specs.ped_graph.specs.Keeping.{IsOneToOne}
use Rattle.ped_rules.specs.ped_graph.proofs.OnePane.{one_edges}
use Rattle.ped_rules.specs.ped_symbols.specs.Declarations.{declared_in}
use Rattle.ped_rules.specs.ped_symbols.specs.NameRefusals.{IsValid}
use Rattle.ped_rules.specs.ped_flow.specs.Questions.{IsLoop, LoopOf}
use Rattle.ped_rules.specs.ped_steps.specs.declared.rules.Rule.TheVariants.{NoLoop, NothingToReject}
use Rattle.ped_rules.specs.ped_steps.specs.Causes.{Rules, NoRule, IsFirstRule, none_forbids}
use Rattle.ped_rules.specs.ped_steps.specs.Replacing.{alone, all_kept, program_with}
use Rattle.ped_rules.specs.ped_steps.proofs.OneCause.{one_cause}
use Rattle.ped_rules.specs.ped_steps.proofs.OnePlace.{one_program}
use Rattle.ped_rules.specs.Carried.{level_at, is_carried_by}
use Rattle.ped_rules.specs.Chains.{no_rules, also}
use Rattle.ped_rules.specs.Lawful.{IsLawful}
use Rattle.ped_rules.specs.OnlyLoops.{on_loop}
use Rattle.ped_rules.specs.Rules.{WhereNoLoop}
use Rattle.ped_rules.proofs.Chains.{IsChain, chain_end, chain_link, first_here, first_later, none_later, not_this, not_those, none_at_end}
use Rattle.ped_rules.proofs.Decided.{some_loop, valid_decided}
use Rattle.ped_rules.proofs.KeptNumbers.{all_one_to_one}
use Rattle.ped_rules.proofs.OneEach.{no_loop_one}
use Rattle.ped_loops.specs.Rejecting.{with_rejection, with_directive, is_pending, is_variable, is_pending_of, NothingPending, WhereNothing, MakesRejection, StandsAgainstRejection, rejecting}
use Rattle.ped_loops.proofs.PendingEdges.{IsOpen, open_pending}
use Rattle.ped_rules.proofs.NameLaws.ReferencedNames.{reference_named}
use Rattle.ped_loops.proofs.RejectedTrees.{more, are_marked, all_marked, valid_as_before}
use Rattle.ped_loops.proofs.VariableNames.{IsVariable, is_variable as variable}
use Rattle.ped_rules.specs.ped_loop_runs.proofs.LoopLaws.OneForOneStands.{false_unless}

same_statement : (a b : StmtTree) → Some a ≡ Some b → a ≡ b
same_statement a b e = cc

-- the new program of the code is that of the step
pub directive_program : (t : ProgramTree) (n : ℕ) (x : List ℕ) (h : Head) (body : StmtTrees) (f : Stmt) (new : List Stmt) → IsLoop t n h body → new ≡ f ∷ [] → alone (stmt_tree f) ≡ with_rejection x h body → program_with (λ s. stmt_trees new) n t ≡ with_directive t n x
directive_program t n x h body f new is listed made =
    one_program (λ (s : StmtTree). stmt_trees new) (on_loop (with_rejection x)) n t (λ g e. ap stmt_trees listed ∙ made ∙ ap (on_loop (with_rejection x)) (same_statement (Do h body) g (sym is ∙ e)))

-- two tests one behind the other
any_filtered : (p q : Edge → Bool) (xs : List Edge) → list_any q (filter p xs) ≡ list_any (λ e. p e && q e) xs
any_filtered p q [] = refl
any_filtered p q (x ∷ xs) = go (p x) refl (any_filtered p q xs)
  where
    go : (b : Bool) → p x ≡ b → list_any q (filter p xs) ≡ list_any (λ e. p e && q e) xs → list_any q (cond (p x) (x ∷ filter p xs) (filter p xs)) ≡ ((p x && q x) || list_any (λ e. p e && q e) xs)
    go true e rest = ap (λ (b : Bool). list_any q (cond b (x ∷ filter p xs) (filter p xs))) e ∙ ap (λ (r : Bool). q x || r) rest ∙ ap (λ (b : Bool). (b && q x) || list_any (λ z. p z && q z) xs) (sym e)
    go false e rest = ap (λ (b : Bool). list_any q (cond b (x ∷ filter p xs) (filter p xs))) e ∙ rest ∙ ap (λ (b : Bool). (b && q x) || list_any (λ z. p z && q z) xs) (sym e)

any_mapped : {X : Type 0} (f : X → Edge) (q : Edge → Bool) (xs : List X) → list_any (λ x. q (f x)) xs ≡ list_any q (map f xs)
any_mapped f q [] = refl
any_mapped f q (x ∷ xs) = ap (λ (b : Bool). q (f x) || b) (any_mapped f q xs)

-- what the code finds among the dependences at a level
pub found_at : {X : Type 0} (f : X → Edge) (t : ProgramTree) (s level : ℕ) (x : List ℕ) (all : List Edge) (found : List X) → level ≡ level_at t s → map f found ≡ pane.edges_at t s level all
    → list_any (λ e. is_pending_of x (f e)) found ≡ list_any (λ e. is_carried_by t s e && is_pending_of x e) all
found_at f t s level x all found at is =
    any_mapped f (is_pending_of x) found ∙ ap (list_any (is_pending_of x)) (is ∙ ap (λ (n : ℕ). pane.edges_at t s n all) at) ∙ any_filtered (is_carried_by t s) (is_pending_of x) all

none_all : (p : Edge → Bool) (xs : List Edge) → list_any p xs ≡ false → All (λ e. p e ≡ false) xs
none_all p [] h = All-nil (λ (e : Edge). p e ≡ false)
none_all p (x ∷ xs) h = let parts = or_none (p x) (list_any p xs) h in All-cons (λ (e : Edge). p e ≡ false) x xs parts.0 (none_all p xs parts.1)
  where
    or_none : (a b : Bool) → (a || b) ≡ false → (a ≡ false) × (b ≡ false)
    or_none true b e = absurd (both_ways true e refl)
    or_none false b e = (refl, e)

all_none : (p : Edge → Bool) (xs : List Edge) → All (λ e. p e ≡ false) xs → list_any p xs ≡ false
all_none p [] h = refl
all_none p (x ∷ xs) h = λ i. All-head (λ (e : Edge). p e ≡ false) x xs h i || all_none p xs (All-tail (λ (e : Edge). p e ≡ false) x xs h) i

-- what passes a test is somewhere in the list
any_in : (p : Edge → Bool) (xs : List Edge) → list_any p xs ≡ true → (e : Edge) × IsIn e xs × (p e ≡ true)
any_in p [] h = absurd (both_ways false refl h)
any_in p (x ∷ xs) h = by (p x) refl h (λ g. any_in p xs g)
  where
    by : (b : Bool) → p x ≡ b → (b || list_any p xs) ≡ true → (list_any p xs ≡ true → (e : Edge) × IsIn e xs × (p e ≡ true)) → (e : Edge) × IsIn e (x ∷ xs) × (p e ≡ true)
    by true e g rest = (x, inl refl, e)
    by false e g rest = let r = rest g in (r.0, inr r.1, r.2)

-- what each of a list fails, all fail
all_fail : (p : Edge → Bool) (xs : List Edge) → ((e : Edge) → IsIn e xs → p e ≡ false) → All (λ e. p e ≡ false) xs
all_fail p [] h = All-nil (λ (e : Edge). p e ≡ false)
all_fail p (x ∷ xs) h = All-cons (λ (e : Edge). p e ≡ false) x xs (h x (inl refl)) (all_fail p xs (λ e i. h e (inr i)))

module _ (s : ℕ) (x : List ℕ) where
  abbrev Makes : ProgramTree → ProgramTree → List (ℕ × ℕ) → Type 0
  Makes = MakesRejection s x

  one_made : (t new other : ProgramTree) (keep more : List (ℕ × ℕ)) → Makes t new keep → Makes t other more → (new ≡ other) × (keep ≡ more)
  one_made t new other keep more p q = (p.0 ∙ sym q.0, p.1 ∙ sym q.1)

  module _ (t : ProgramTree) where
    abbrev sought : Edge → Bool
    sought e = is_carried_by t s e && is_pending_of x e

    -- the code finds no pending dependence, or one
    pub nothing_pending : (all : List Edge) → AreEdges t all → list_any sought all ≡ false → NothingPending t s x
    nothing_pending all are none edges others = subst (λ (es : List Edge). All (λ e. sought e ≡ false) es) (one_edges t all edges are others) (none_all sought all none)

    pub some_pending : (all : List Edge) → AreEdges t all → list_any sought all ≡ true → NothingPending t s x → ⊥
    some_pending all are some none = both_ways (list_any sought all) (all_none sought all (none all are)) some

    abbrev nothing : Rules
    nothing = also NothingToReject (WhereNothing t s x) no_rules

    nothing_chain : IsChain 1 nothing
    nothing_chain = chain_link NothingToReject (WhereNothing t s x) no_rules 1 (omega arith) (λ m n a b. a.2 ∙ sym b.2) (chain_end 18)

    pub chain : IsChain 0 (StandsAgainstRejection s x t)
    chain = chain_link NoLoop (WhereNoLoop t s) nothing 0 (omega arith) (no_loop_one t s) nothing_chain

    -- the statement is no DO
    pub no_loop_first : ((h : Head) (body : StmtTrees) → IsLoop t s h body → ⊥) → IsFirstRule (StandsAgainstRejection s x t) NoLoop s
    no_loop_first none = first_here NoLoop (WhereNoLoop t s) nothing s ((λ l. none l.head l.body l.is), refl) nothing_chain

    module _ (h : Head) (body : StmtTrees) (is : IsLoop t s h body) where
      abbrev loop : LoopOf t s
      loop = record { head = h; body = body; is = is }

      not_no_loop : (n : ℕ) → WhereNoLoop t s n → ⊥
      not_no_loop n p = p.0 loop

      pub nothing_first : NothingPending t s x → IsFirstRule (StandsAgainstRejection s x t) NothingToReject s
      nothing_first none = first_later NoLoop (WhereNoLoop t s) nothing not_no_loop NothingToReject s (first_here NothingToReject (WhereNothing t s x) no_rules s (loop, none, refl) (chain_end 18))

      pub nothing_stands : (NothingPending t s x → ⊥) → NoRule (StandsAgainstRejection s x t)
      nothing_stands some = none_later NoLoop (WhereNoLoop t s) nothing not_no_loop (none_later NothingToReject (WhereNothing t s x) no_rules (λ n p. some p.1) none_at_end)

    -- where the DO carries such a dependence, the new program is valid
    module _ (valid : IsValid t) (loop : LoopOf t s) where
      same_program : is_among x loop.head.rejected ≡ false → with_directive t s x ≡ record { decls = t.decls; body = all_marked x s t.body 1 }
      same_program kept =
          one_program (on_loop (with_rejection x)) (on_loop (more x s)) s t
          (λ g e. ap (on_loop (with_rejection x)) (same_statement g (Do loop.head loop.body) (sym e ∙ loop.is)) ∙ last ∙ ap (on_loop (more x s)) (same_statement (Do loop.head loop.body) g (sym loop.is ∙ e)))
          ∙ ap (λ (body : StmtTrees). record { decls = t.decls; body = body }) (are_marked x s t.body 1)
        where
          last : with_rejection x loop.head loop.body ≡ more x s loop.head loop.body
          last = ap (λ (b : Bool). alone (Do (record loop.head { rejected = if b then loop.head.rejected else loop.head.rejected ++ x ∷ [] }) loop.body)) (sym kept)

      pub found_valid : (edges : List Edge) → AreEdges t edges → (e : Edge) → IsIn e edges → sought e ≡ true → IsValid (with_directive t s x)
      found_valid edges are e i passes = subst IsValid (sym (same_program kept)) (valid_as_before x s t name v.real v.constant v.program valid)
        where
          carries : (is_carried_by t s e ≡ true) × (is_pending_of x e ≡ true)
          carries = and_parts (is_carried_by t s e) (is_pending_of x e) passes

          pending : (is_pending e.mark ≡ true) × (is_variable x e.name ≡ true)
          pending = and_parts (is_pending e.mark) (is_variable x e.name) carries.1

          named : (is_name e.name ≡ true) × (is_same_text x e.name ≡ true)
          named = and_parts (is_name e.name) (is_same_text x e.name) pending.1

          same : x ≡ e.name
          same = same_is x e.name named.1

          open_there : IsOpen t s loop e.name
          open_there = open_pending t edges are e i s loop carries.0 pending.0

          name : is_name x ≡ true
          name = ap is_name same ∙ named.0

          kept : is_among x loop.head.rejected ≡ false
          kept = ap (λ (y : List ℕ). is_among y loop.head.rejected) same ∙ open_there.kept

          its_name : x ≡ open_there.reference.access.name
          its_name = same ∙ open_there.name

          v : IsVariable (declared_in t.decls) x
          v =
              let r = reference_named t open_there.reference open_there.listed (ap is_name (sym its_name) ∙ name) in
              variable t valid x (ap (λ (y : List ℕ). is_among y (stmts_names t.body)) its_name ∙ r.0) (ap (λ (y : List ℕ). is_among y (constant_names t.decls)) its_name ∙ r.1)

      pub pending_valid : (all : List Edge) → AreEdges t all → list_any sought all ≡ true → IsValid (with_directive t s x)
      pending_valid all are some = let r = any_in sought all some in found_valid all are r.0 r.1 r.2

    -- where no rule stands, it is so
    module _ (valid : IsValid t) (none : NoRule (StandsAgainstRejection s x t)) where
      its_loop : LoopOf t s
      its_loop = some_loop t s (not_this NoLoop (WhereNoLoop t s) nothing none)

      pending : NothingPending t s x → ⊥
      pending nothing_there = not_this NothingToReject (WhereNothing t s x) no_rules (not_those NoLoop (WhereNoLoop t s) nothing none) s (its_loop, nothing_there, refl)

      pub is_valid : IsValid (with_directive t s x)
      is_valid = by (valid_decided (with_directive t s x))
        where
          by : IsValid (with_directive t s x) ⊎ (IsValid (with_directive t s x) → ⊥) → IsValid (with_directive t s x)
          by (inl v) = v
          by (inr invalid) = absurd (pending (λ edges are. all_fail sought edges (λ e i. false_unless (sought e) (λ passes. invalid (found_valid valid its_loop edges are e i passes)))))

  pub lawful_rejection : IsLawful (rejecting s x)
  lawful_rejection = record {
    one_cause = λ t c d p q. one_cause t (StandsAgainstRejection s x t) none_forbids (chain t).one c d p q;
    one_made = one_made;
    one_to_one = λ t new keep p. subst IsOneToOne (sym p.1) (all_one_to_one t);
    some_made = λ t valid none. (with_directive t s x, all_kept t, (refl, refl), is_valid t valid none.0);
    keeps = λ t new keep valid none p. tt;
    keeps_on = λ t new keep data_bytes valid none p kind. absurd cc;
  }
