-- A program in which a scalar has become private to the iterations of a DO keeps its meaning.
use Rattle.std.proofs.Common.{◌≡◌, ℕ, ◌+◌, List, [], ◌∷◌, ◌++◌, map, Bool, true, false, ◌||◌, Some, refl, sym, ap, subst, ◌∙◌, append-nil}
use Rattle.std.specs.List.{list_any}
use Rattle.std.specs.Str.Lines.{lines}
use Rattle.std.proofs.lemmas.Bool.{both_ways}
use Rattle.std.proofs.lemmas.List.Folds.{list_any-append}
use Rattle.ped_base.specs.Lists.{is_same_text, is_among}
use Rattle.ped_tree.specs.Tree.{Head, StmtTree, StmtTrees, Do, ProgramTree}
use Rattle.ped_tree.specs.Accesses.{constant_names}
use Rattle.ped_tree.specs.Numbering.{statement_with, statements_count}
use Rattle.ped_rules.specs.ped_symbols.specs.declared.uses.Use.{Use}
use Rattle.ped_rules.specs.ped_symbols.specs.declared.uses.Role.TheVariants.{Private}
use Rattle.ped_rules.specs.ped_symbols.specs.Uses.{used_as}
use Rattle.ped_rules.specs.ped_symbols.specs.Sites.{statement, private_site, stmt_sites, stmts_sites}
use Rattle.ped_rules.specs.ped_symbols.specs.Kinds.{kind_in}
use Rattle.ped_rules.specs.ped_symbols.specs.NameRefusals.{IsValid}
use Rattle.ped_rules.specs.ped_symbols.specs.RightUses.RightUses.{is_scalar}
use Rattle.ped_rules.specs.ped_symbols.proofs.RightUseLaws.Whole.{same_values, same_kinds}
use Rattle.ped_rules.specs.ped_store.specs.Stores.{Store, store_at_start}
use Rattle.ped_rules.specs.ped_store.specs.Acts.{Act}
use Rattle.ped_rules.specs.ped_laws.specs.Acts.Pieces.{StandsFor}
use Rattle.ped_rules.specs.ped_laws.specs.Acts.Sets.{wants}
use Rattle.ped_rules.specs.ped_laws.specs.FlowRuns.Exits.{IsOneToOne}
use Rattle.ped_rules.specs.ped_laws.specs.Runs.Replaying.{goes_on, finish_of, Replays}
use Rattle.ped_rules.specs.ped_laws.specs.Runs.Showing.{shown_at_end}
use Rattle.ped_rules.specs.ped_laws.proofs.FlowRunLaws.DeadExits.{unwanted_behind}
use Rattle.ped_rules.specs.ped_laws.proofs.FlowRunLaws.Stopping.{fitting_stops, loop_stops}
use Rattle.ped_rules.specs.ped_laws.proofs.FlowRunLaws.TripReads.{unexposed_unneeded}
use Rattle.ped_rules.specs.ped_eval.specs.Outcomes.{bounds_of, setting_of, IsRaceFree}
use Rattle.ped_rules.specs.ped_eval.specs.Runs.{Run, run, run_all}
use Rattle.ped_rules.specs.ped_eval.specs.Scopes.{Setting, Scope}
use Rattle.ped_rules.specs.ped_flow.specs.Questions.{LoopOf, IsExposed, IsLiveAfter}
use Rattle.ped_rules.specs.ped_steps.specs.Replacing.{alone}
use Rattle.ped_rules.specs.ped_steps.specs.Runs.Gaps.{number_at}
use Rattle.ped_rules.specs.ped_steps.specs.Runs.Meaning.{Keeps}
use Rattle.ped_rules.specs.ped_steps.specs.Runs.Pasting.{is_in_parallel}
use Rattle.ped_rules.specs.ped_steps.specs.Runs.Renumbering.{renumbered}
use Rattle.ped_rules.specs.ped_steps.proofs.RunLaws.NamesKept.{Alike, AreAlike, occurs, append_alike, by_sites, same_alike, alike_itself, names_kept}
use Rattle.ped_rules.specs.ped_steps.proofs.RunLaws.ScalarNames.{scalar_occurs, scalar_named, statement_in, shown_scalar}
use Rattle.ped_rules.specs.ped_loop_runs.specs.Executions.{IsExecuted, as_done}
use Rattle.ped_rules.specs.ped_loop_runs.specs.Meaning.{RaceFreeInstead, IsExchange}
use Rattle.ped_rules.specs.ped_loop_runs.specs.Pasting.{DoInstead, StandInstead}
use Rattle.ped_rules.specs.ped_loop_runs.specs.Statements.{GivesWay}
use Rattle.ped_rules.specs.ped_loop_runs.proofs.LoopLaws.OneForOneStands.{run_alone}
use Rattle.ped_rules.specs.ped_loop_runs.proofs.PastingLaws.KeptMeaning.{exchange_keeps, wanted_suit}
use Rattle.ped_rules.specs.ped_loop_runs.proofs.PastingLaws.OneStatement.{gives_way}
use Rattle.ped_scalar.specs.Privatising.{with_private, privatised}
use Rattle.ped_scalar.proofs.PrivatisedParts.{fresh, fresh_replays, stand_instead}
use Rattle.ped_scalar.proofs.PrivatisedRaces.{privatised_race_free}

-- a name of a PRIVATE list occurs at its site
private_named : (y : List ℕ) (xs : List (List ℕ)) → is_among y (map (λ (u : Use). u.name) (map (used_as Private) xs)) ≡ is_among y xs
private_named y [] = refl
private_named y (x ∷ xs) = ap (λ (b : Bool). is_same_text y x || b) (private_named y xs)

private_occurs : (y : List ℕ) (xs : List (List ℕ)) → occurs y (private_site xs) ≡ is_among y xs
private_occurs y [] = refl
private_occurs y (x ∷ xs) = ap (λ (us : List Use). is_among y (map (λ (u : Use). u.name) us)) (append-nil (map (used_as Private) (x ∷ xs))) ∙ private_named y (x ∷ xs)

more_alike : (x y : List ℕ) (xs : List (List ℕ)) → AreAlike x y (private_site (xs ++ x ∷ [])) (private_site xs)
more_alike x y xs =
    subst (λ (b : Bool). Alike (is_same_text y x) b (occurs y (private_site xs))) (sym (private_occurs y (xs ++ x ∷ []) ∙ list_any-append (is_same_text y) xs (x ∷ [])))
    (subst (λ (b : Bool). Alike (is_same_text y x) (is_among y xs || (is_same_text y x || false)) b) (sym (private_occurs y xs)) (go (is_among y xs) (is_same_text y x)))
  where
    go : (a e : Bool) → Alike e (a || (e || false)) a
    go true true = record { but = refl; kept = λ h. refl }
    go true false = record { but = refl; kept = λ h. refl }
    go false true = record { but = refl; kept = λ h. refl }
    go false false = record { but = refl; kept = λ h. h }

module _ (t : ProgramTree) (valid : IsValid t) (l : ℕ) (loop : LoopOf t l) (x : List ℕ) (in_order : loop.head.parallel ≡ false) (alone_so : is_in_parallel t l ≡ false) (absent : is_among x loop.head.private ≡ false) (scalar : is_scalar (kind_in t) x ≡ true)
    (unexposed : (n : ℕ) → IsExposed t l x n → ⊥) (dead : IsLiveAfter t l x → ⊥) where
  abbrev p : Setting
  p = setting_of t

  abbrev s : StmtTree
  s = Do loop.head loop.body

  abbrev old : StmtTrees
  old = alone (Do loop.head loop.body)

  abbrev more : Head
  more = record loop.head { private = loop.head.private ++ x ∷ [] }

  abbrev new : StmtTrees
  new = alone (Do (record loop.head { private = loop.head.private ++ x ∷ [] }) loop.body)

  abbrev u : ProgramTree
  u = privatised t l x

  abbrev q : Setting
  q = renumbered (λ n. n) (setting_of (privatised t l x))

  one : IsOneToOne p.number
  one m n e = e

  unnamed : is_among x (constant_names t.decls) ≡ false
  unnamed = scalar_named t x valid scalar

  -- the new program has the same names, and they stand for the same
  sites_alike : (y : List ℕ) → AreAlike x y (stmts_sites (alone (Do more loop.body))) (stmt_sites s)
  sites_alike y =
      by_sites x y (stmt_sites (Do more loop.body) ++ []) (stmt_sites (Do more loop.body)) (stmt_sites s) (append-nil (stmt_sites (Do more loop.body)))
      (append_alike x y (statement (Do more loop.body) ∷ []) (statement s ∷ []) (private_site more.private ++ stmts_sites loop.body) (private_site loop.head.private ++ stmts_sites loop.body) (alike_itself (is_same_text y x) (occurs y (statement s ∷ [])))
      (append_alike x y (private_site more.private) (private_site loop.head.private) (stmts_sites loop.body) (stmts_sites loop.body) (more_alike x y loop.head.private) (same_alike x y (stmts_sites loop.body))))

  of_it : (y : List ℕ) (old : StmtTree) → statement_with l t ≡ Some old → AreAlike x y (stmts_sites (with_private x old)) (stmt_sites old)
  of_it y old there =
      let is : s ≡ old = ap (statement_in s) (sym loop.is ∙ there) in
      subst (λ (z : StmtTree). AreAlike x y (stmts_sites (with_private x z)) (stmt_sites z)) is (sites_alike y)

  kinds : (y : List ℕ) → kind_in u y ≡ kind_in t y
  kinds = same_kinds t u refl (λ y. names_kept x y (with_private x) l t (of_it y) (scalar_occurs t x scalar))

  pub setting : setting_of u ≡ setting_of t
  setting = λ i. record { bounds = λ y. bounds_of (kinds y i); constants = same_values t u refl i; number = λ n. n }

  same_setting : q ≡ p
  same_setting = ap (renumbered (λ n. n)) setting

  way : GivesWay (with_private x) l s t
  way = gives_way (with_private x) l s t loop.is

  -- the new acts
  abbrev acts : Scope → Store → List Act
  acts = fresh t l loop x p one in_order absent

  abbrev count : ℕ
  count = statements_count old

  module _ (valid_new : IsValid u) (data_bytes : List ℕ) (free : IsRaceFree t data_bytes) where
    abbrev start : Store
    start = store_at_start (lines data_bytes)

    module _ (scope : Scope) (front behind : List Act) (v : Store) (executed : IsExecuted p t start l count scope front (run_all p old l scope v).acts behind v) (goes : finish_of (run_all p old l scope v).ending ≡ goes_on) where
      goes_alone : finish_of (run p s l scope v).ending ≡ goes_on
      goes_alone = ap (λ (r : Run). finish_of r.ending) (sym (run_alone p s l scope v)) ∙ goes

      executed_alone : IsExecuted p t start l count scope front (run p s l scope v).acts behind v
      executed_alone = subst (λ (r : Run). IsExecuted p t start l count scope front r.acts behind v) (run_alone p s l scope v) executed

      replayed : Replays (run_all p new l scope) (acts scope v) goes_on
      replayed = fresh_replays t l loop x p one in_order absent scope v goes_alone

      stood : StandsFor (record { agreed = wants (shown_at_end t) ((run_all p old l scope v).acts ++ behind); old = (run_all p old l scope v).acts; new = acts scope v }) (wants (shown_at_end t) behind) v
      stood =
          subst (λ (r : Run). StandsFor (record { agreed = wants (shown_at_end t) (r.acts ++ behind); old = r.acts; new = acts scope v }) (wants (shown_at_end t) behind) v) (sym (run_alone p s l scope v))
          (stand_instead t l loop x p one in_order absent start (shown_at_end t) (λ y path. refl) free.0
          (λ S seen m k w ends. unexposed_unneeded p t l loop x unnamed (loop_stops t l loop (fitting_stops t valid.fits)) unexposed S seen m k w ends)
          (λ S rest exit. unwanted_behind p one t x unnamed (fitting_stops t valid.fits) start l S rest exit dead (shown_at_end t) (shown_scalar t x S))
          scope v executed.place (as_done executed_alone) goes_alone)

    do_instead : DoInstead p q t start (number_at way.gap 1) count (run_all p old (number_at way.gap 1)) new acts
    do_instead =
        subst (λ (r : Setting). DoInstead p r t start (number_at way.gap 1) count (run_all p old (number_at way.gap 1)) new acts) (sym same_setting)
        (subst (λ (k : ℕ). DoInstead p p t start k count (run_all p old k) new acts) (sym way.number) replayed)

    stands_instead : StandInstead (wants (shown_at_end t)) p t start (number_at way.gap 1) count (run_all p old (number_at way.gap 1)) acts
    stands_instead = subst (λ (k : ℕ). StandInstead (wants (shown_at_end t)) p t start k count (run_all p old k) acts) (sym way.number) stood

    exchange : IsExchange way.gap old new t u data_bytes
    exchange = record {
      saved = refl;
      kinds = λ y k. kinds y;
      counted = λ n. n;
      told = λ n. n;
      back = record { back = λ n. refl };
      pasted = record {
        old_body = way.old;
        new_body = way.new;
        bounds = λ y k. ap (λ (r : Setting). r.bounds y) (sym setting);
        constants = ap (λ (r : Setting). r.constants) (sym setting);
        one_each = one;
        numbers = record { before = λ k less. refl; behind = λ k less. refl };
        some = way.some;
        unstopped = (λ i. loop_stops t l loop (fitting_stops t valid.fits) i || false);
        indices = λ k. absurd (both_ways (is_in_parallel t (number_at way.gap 1)) (ap (is_in_parallel t) way.number ∙ alone_so) k);
      };
      agreed = wants (shown_at_end t);
      suit = wanted_suit (shown_at_end t);
      fresh = acts;
      instead = do_instead;
      stand = stands_instead;
      free = subst (λ (k : ℕ). RaceFreeInstead p t start k count (run_all p old k) acts (run_all q u.body 1 [])) (sym way.number) (privatised_race_free t l loop x one in_order absent alone_so data_bytes u valid_new);
    }

  -- the program keeps its meaning
  pub privatised_keeps : IsValid u → Keeps t u
  privatised_keeps valid_new = exchange_keeps way.gap old new t u refl (exchange valid_new)
