-- In a run each execution of a DO whose iterations get one more private scalar may be exchanged for what the new DO does.
use Rattle.std.proofs.Common.{◌≡◌, ℕ, ◌+◌, List, [], ◌∷◌, ◌++◌, Bool, true, false, Option, Some, None, Result, Ok, Err, refl, sym, ap, subst, ◌∙◌, append-nil, if◌then◌else◌}
use Rattle.std.proofs.lemmas.Bool.{or_parts}
use Rattle.std.proofs.lemmas.List.{map-append}
use Rattle.ped_base.specs.Lists.{is_among}
use Rattle.ped_tree.specs.Tree.{Head, StmtTree, StmtTrees, Assign, If, Do, Print, Read, Stop, Comment, no_stmts, more_stmts, ProgramTree}
use Rattle.ped_tree.specs.Numbering.{statement_count, statements_count, numbered, all_numbered, statement_with}
use Rattle.ped_rules.specs.ped_store.specs.Cells.{Cell, Private, Iteration}
use Rattle.ped_rules.specs.ped_store.specs.Stores.{Store}
use Rattle.ped_rules.specs.ped_store.specs.Acts.{Turn, Act, iterations_of}
use Rattle.ped_rules.specs.ped_laws.specs.Acts.Sets.{needs, wants}
use Rattle.ped_rules.specs.ped_laws.specs.Acts.Renaming.{touch}
use Rattle.ped_rules.specs.ped_laws.specs.Acts.Pieces.{StandsFor}
use Rattle.ped_rules.specs.ped_laws.proofs.ActLaws.Appending.{touch_append}
use Rattle.ped_rules.specs.ped_eval.specs.Scopes.{Setting, Scope, turns_of, cell_of, names_in}
use Rattle.ped_rules.specs.ped_eval.specs.Evaluation.{Seen, Evaluated}
use Rattle.ped_rules.specs.ped_eval.specs.Loops.{Limits, limits, entered_with, inner_variables, frame}
use Rattle.ped_rules.specs.ped_eval.specs.Runs.{Run, run, run_all}
use Rattle.ped_rules.specs.ped_eval.specs.Outcomes.{Ends}
use Rattle.ped_rules.specs.ped_flow.specs.Questions.{LoopOf}
use Rattle.ped_rules.specs.ped_laws.specs.FlowRuns.Exits.{IsOneToOne, IsExit}
use Rattle.ped_rules.specs.ped_laws.proofs.FlowRunLaws.Standing.{Stand, whole_stands, first_stands, rest_stands, inner_stands, else_stands, is_there}
use Rattle.ped_rules.specs.ped_laws.specs.Runs.Replaying.{goes_on, faults, finish_of, Replays}
use Rattle.ped_rules.specs.ped_laws.proofs.RunLaws.Joined.{replays_nothing, statements_more, entry_fails}
use Rattle.ped_rules.specs.ped_steps.specs.Replacing.{alone}
use Rattle.ped_rules.specs.ped_steps.specs.Runs.Pasting.{IsPlaceOf, IsDone}
use Rattle.ped_rules.specs.ped_steps.proofs.RunLaws.LeftLoops.{execution_left, going_ends}
use Rattle.ped_rules.specs.ped_steps.proofs.RunLaws.RunCells.{EachDo, EachDos}
use Rattle.ped_rules.specs.ped_steps.proofs.RunLaws.Uncopied.{IsSpare, copy_untouched}
use Rattle.ped_scalar.proofs.PrivatisedLoops.{more_private, copy, new_loop, loop_replays, loop_stands}

-- the head of a statement that is a DO
abbrev head_in : Head → Option StmtTree → Head
head_in other (Some (Do h body)) = h
head_in other (Some (Assign left right)) = other
head_in other (Some (If c a b)) = other
head_in other (Some (Print items)) = other
head_in other (Some (Read items)) = other
head_in other (Some Stop) = other
head_in other (Some (Comment text)) = other
head_in other None = other

-- a DO that goes on has been entered
pub do_entered : (p : Setting) (h : Head) (body : StmtTrees) (l : ℕ) (S : Scope) (s : Store) → finish_of (run p (Do h body) l S s).ending ≡ goes_on → (m : Limits) × (limits (names_in p S) h s ≡ record { seen = (limits (names_in p S) h s).seen; result = Ok m })
do_entered p h body l S s goes = go (limits (names_in p S) h s).result refl
  where
    go : (r : Result Limits ℕ) → (limits (names_in p S) h s).result ≡ r → (m : Limits) × (limits (names_in p S) h s ≡ record { seen = (limits (names_in p S) h s).seen; result = Ok m })
    go (Ok m) q = (m, λ i. record { seen = (limits (names_in p S) h s).seen; result = q i })
    go (Err n) q = let broken : faults n (p.number l) ≡ goes_on = ap (λ (r : Run). finish_of r.ending) (sym (entry_fails p h body l S s n q)) ∙ goes in absurd cc

module _ (t : ProgramTree) (l : ℕ) (loop : LoopOf t l) (x : List ℕ) (p : Setting) (one : IsOneToOne p.number) (in_order : loop.head.parallel ≡ false) (absent : is_among x loop.head.private ≡ false) where
  abbrev h : Head
  h = loop.head

  abbrev body : StmtTrees
  body = loop.body

  -- what is done in the place of an execution of the DO
  abbrev fresh_with : Scope → Store → List Seen → Result Limits ℕ → List Act
  fresh_with S s seen (Ok m) = new_loop p h body l S x in_order absent seen m s
  fresh_with S s seen (Err n) = []

  abbrev pub fresh : Scope → Store → List Act
  fresh S s = fresh_with S s (limits (names_in p S) h s).seen (limits (names_in p S) h s).result

  pub is_entered : (S : Scope) (s : Store) → finish_of (run p (Do h body) l S s).ending ≡ goes_on → (m : Limits) × (limits (names_in p S) h s ≡ record { seen = (limits (names_in p S) h s).seen; result = Ok m })
  is_entered S s goes = do_entered p h body l S s goes

  pub fresh_is : (S : Scope) (s : Store) (m : Limits) → limits (names_in p S) h s ≡ record { seen = (limits (names_in p S) h s).seen; result = Ok m } → fresh S s ≡ new_loop p h body l S x in_order absent (limits (names_in p S) h s).seen m s
  fresh_is S s m q = ap (λ (e : Evaluated Limits). fresh_with S s (limits (names_in p S) h s).seen e.result) q

  pub fresh_replays : (S : Scope) (s : Store) → finish_of (run p (Do h body) l S s).ending ≡ goes_on → Replays (run_all p (alone (Do (more_private p h body l S x in_order absent) body)) l S) (fresh S s) goes_on
  fresh_replays S s goes =
      let entered = is_entered S s goes in
      let more = more_private p h body l S x in_order absent in
      subst (λ (acts : List Act). Replays (run_all p (alone (Do more body)) l S) acts goes_on) (append-nil (new_loop p h body l S x in_order absent (limits (names_in p S) h s).seen entered.0 s) ∙ sym (fresh_is S s entered.0 entered.1))
      (statements_more p (Do more body) no_stmts l S (new_loop p h body l S x in_order absent (limits (names_in p S) h s).seen entered.0 s) [] goes_on
      (loop_replays p h body l S x in_order absent (limits (names_in p S) h s).seen entered.0 s entered.1 goes) replays_nothing)

  -- no iteration of the DO has a copy of the scalar
  spare_private : (g : Head) (b : StmtTrees) (n : ℕ) (seen : List Seen) (m : Limits) (k : ℕ) → g ≡ h → is_among x (frame (entered_with p n g b seen m) k).private ≡ false
  spare_private g b n seen m k q = ap (is_among x) (by_kind g.parallel (ap (λ (z : Head). z.parallel) q ∙ in_order)) ∙ ap (λ (z : Head). is_among x z.private) q ∙ absent
    where
      by_kind : (r : Bool) → r ≡ false → (if r then g.variable ∷ (g.private ++ inner_variables g.parallel b) else g.private) ≡ g.private
      by_kind true e = absurd cc
      by_kind false e = refl

  spare_do : (n : ℕ) (g : Head) (b : StmtTrees) → statement_with n t ≡ Some (Do g b) → IsSpare p x (p.number l) n g b
  spare_do n g b there seen m k number =
      let same : n ≡ l = one n l number in
      spare_private g b n seen m k (ap (head_in h) (sym there ∙ ap (λ (z : ℕ). statement_with z t) same ∙ loop.is))

  mutual
    spare_in : (s : StmtTree) (n : ℕ) → Stand t n (numbered s) → EachDo (IsSpare p x (p.number l)) s n
    spare_in (Assign left right) n st = tt
    spare_in (If c a b) n st =
        let inside = inner_stands t (If c a b) (all_numbered a ++ all_numbered b) n st in
        (all_spare_in a (n + 1) (first_stands t (n + 1) (all_numbered a) (all_numbered b) inside), all_spare_in b (n + 1 + statements_count a) (else_stands t a b (n + 1) inside))
    spare_in (Do g b) n st = (spare_do n g b (is_there t (Do g b) (all_numbered b) n st), all_spare_in b (n + 1) (inner_stands t (Do g b) (all_numbered b) n st))
    spare_in (Print items) n st = tt
    spare_in (Read items) n st = tt
    spare_in Stop n st = tt
    spare_in (Comment text) n st = tt

    pub all_spare_in : (ss : StmtTrees) (n : ℕ) → Stand t n (all_numbered ss) → EachDos (IsSpare p x (p.number l)) ss n
    all_spare_in no_stmts n st = tt
    all_spare_in (more_stmts s rest) n st = (spare_in s n (first_stands t n (numbered s) (all_numbered rest) st), all_spare_in rest (n + statement_count s) (rest_stands t s rest n st))

  pub copies_untouched : (start : Store) (c : Cell) (path : List Iteration) (k : ℕ) → c ≡ Private x (path ++ (record { statement = p.number l; number = k }) ∷ []) → touch (run_all p t.body 1 [] start).acts c ≡ false
  copies_untouched start c path k q = copy_untouched p x (p.number l) t.body 1 start (all_spare_in t.body 1 (whole_stands t)) c (record { path = path; number = k; is = q })

  pub copy_is : (S : Scope) (seen : List Seen) (m : Limits) (j : ℕ) → copy p h body l S x in_order absent seen m j ≡ Private x (iterations_of (turns_of S) ++ (record { statement = p.number l; number = j }) ∷ [])
  copy_is S seen m j = ap (Private x) (map-append (λ (u : Turn). record { statement = u.statement; number = u.number }) (turns_of S) ((frame (entered_with p l h body seen m) j).turn ∷ []))

  module _ (start : Store) where
    module _ (shown : Cell → Bool) (hidden : (y : List ℕ) (path : List Iteration) → shown (Private y path) ≡ false) (ends : Ends (run_all p t.body 1 [] start).ending)
        (unneeded : (S : Scope) (seen : List Seen) (m : Limits) (k : ℕ) (s : Store) → Ends (run_all p body (l + 1) (frame (entered_with p l h body seen m) k ∷ S) s).ending → needs (run_all p body (l + 1) (frame (entered_with p l h body seen m) k ∷ S) s).acts (cell_of S x) ≡ false)
        (unwanted : (S : Scope) (rest : List Act) → IsExit p t start l S rest → wants shown rest (cell_of S x) ≡ false) where
      -- and these may stand for the old acts
      pub stand_instead : (S : Scope) (u : Store) → IsPlaceOf p t l S → (done : IsDone p t start l S (run p (Do h body) l S u).acts u) → finish_of (run p (Do h body) l S u).ending ≡ goes_on
          → StandsFor (record { agreed = wants shown ((run p (Do h body) l S u).acts ++ done.part.behind); old = (run p (Do h body) l S u).acts; new = fresh S u }) (wants shown done.part.behind) u
      stand_instead S u place done goes =
          let entered = is_entered S u goes in
          let m = entered.0 in
          let seen = (limits (names_in p S) h u).seen in
          let did = (run p (Do h body) l S u).acts in
          let untouched : (j : ℕ) → touch (did ++ done.part.behind) (copy p h body l S x in_order absent seen m j) ≡ false = λ j.
          (or_parts (touch done.part.front (copy p h body l S x in_order absent seen m j)) (touch (did ++ done.part.behind) (copy p h body l S x in_order absent seen m j))
          (sym (touch_append done.part.front (did ++ done.part.behind) (copy p h body l S x in_order absent seen m j)) ∙ ap (λ (zs : List Act). touch zs (copy p h body l S x in_order absent seen m j)) (sym done.part.is)
          ∙ copies_untouched start (copy p h body l S x in_order absent seen m j) (iterations_of (turns_of S)) j (copy_is S seen m j))).1 in
          let dead = unwanted S done.part.behind (execution_left p t start l loop S u ends place done goes) in
          let stands = loop_stands p h body l S x in_order absent seen m u entered.1 goes shown done.part.behind (λ k. hidden x (iterations_of (turns_of (frame (entered_with p l h body seen m) k ∷ S))))
          (λ k v going. unneeded S seen m k v (going_ends (run_all p body (l + 1) (frame (entered_with p l h body seen m) k ∷ S) v).ending going)) untouched dead in
          subst (λ (zs : List Act). StandsFor (record { agreed = wants shown (did ++ done.part.behind); old = did; new = zs }) (wants shown done.part.behind) u) (sym (fresh_is S u m entered.1)) stands
