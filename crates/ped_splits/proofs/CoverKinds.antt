-- Two DO loops of one variable and the DO that they become: names stand for the same in both programs, and no C$PED REJECT comes.
use Rattle.std.proofs.Common.{◌≡◌, ℕ, List, [], ◌∷◌, ◌++◌, Bool, true, false, ◌||◌, refl, sym, ap, ◌∙◌, append-nil, if◌then◌else◌}
use Rattle.std.specs.List.{flat_map}
use Rattle.ped_base.specs.Lists.{has_some, is_same_text, is_among}
use Rattle.ped_tree.proofs.NameLaws.Collected.{among_append, among_collected}
use Rattle.ped_tree.specs.Names.Collecting.{with_names}
use Rattle.ped_tree.specs.NamesIn.{cond_names, expr_names, head_names, stmt_names, stmts_names}
use Rattle.ped_tree.specs.Tree.{Head, StmtTrees, If, Do, Var, no_stmts, more_stmts, ProgramTree}
use Rattle.ped_rules.specs.ped_symbols.proofs.RightUseLaws.Whole.{names_occur, same_kinds, same_values}
use Rattle.ped_rules.specs.ped_symbols.specs.Kinds.{kind_in, names_of}
use Rattle.ped_rules.specs.ped_symbols.specs.Sites.{decl_sites, stmts_sites}
use Rattle.ped_rules.specs.ped_steps.proofs.RunLaws.NamesAtSites.{stmts_at}
use Rattle.ped_rules.specs.ped_steps.proofs.RunLaws.NamesKept.{occurs, occurs_append}
use Rattle.ped_rules.specs.ped_steps.specs.Replacing.{followed, alone}
use Rattle.ped_rules.specs.ped_steps.specs.Runs.Gaps.{Gap, at_front, past, in_then, in_else, in_body, filled}
use Rattle.ped_rules.specs.ped_loop_runs.proofs.TidyLaws.UnrejectedTrees.{filled_unrejected, followed_rejection}
use Rattle.ped_rules.specs.ped_loop_runs.specs.Unrejected.{has_rejection, some_rejection}
use Rattle.ped_rules.specs.ped_flow.proofs.Truths.{or_none}
use Rattle.ped_rules.proofs.NameLaws.SubstitutedRejections.{rejections_kept}
use Rattle.ped_symbolic.specs.Substitution.{statements_substituted}
use Rattle.ped_rules.specs.ped_eval.specs.Outcomes.{bounds_of, setting_of}
use Rattle.ped_splits.proofs.CoverFacts.{MayFuse, may_fuse}
use Rattle.ped_splits.proofs.FuseFacts.{IsFusable, renamed, renamed_next, renamed_pair}
use Rattle.ped_splits.specs.Fusing.{Match}
use Rattle.ped_splits.specs.Neighbours.{Neighbour, fused, joined_head, joined_loop, renamed_body}

module _ (y : List ℕ) where
  or_assoc : (a b c : Bool) → (a || (b || c)) ≡ ((a || b) || c)
  or_assoc true b c = refl
  or_assoc false b c = refl

  both : (xs ys us vs : List (List ℕ)) → is_among y xs ≡ is_among y us → is_among y ys ≡ is_among y vs → is_among y (xs ++ ys) ≡ is_among y (us ++ vs)
  both xs ys us vs e f = among_append y xs ys ∙ ((λ i. e i || f i) ∙ sym (among_append y us vs))

  followed_names : (xs ys : StmtTrees) → is_among y (stmts_names (followed xs ys)) ≡ (is_among y (stmts_names xs) || is_among y (stmts_names ys))
  followed_names no_stmts ys = refl
  followed_names (more_stmts s xs) ys =
      among_append y (stmt_names s) (stmts_names (followed xs ys))
      ∙ (ap (λ (b : Bool). is_among y (stmt_names s) || b) (followed_names xs ys)
      ∙ (or_assoc (is_among y (stmt_names s)) (is_among y (stmts_names xs)) (is_among y (stmts_names ys))
      ∙ ap (λ (b : Bool). b || is_among y (stmts_names ys)) (sym (among_append y (stmt_names s) (stmts_names xs)))))

  -- which names stand in statements with a gap
  module _ (old new : StmtTrees) (same : is_among y (stmts_names new) ≡ is_among y (stmts_names old)) where
    names_filled : (gap : Gap) → is_among y (stmts_names (filled gap new)) ≡ is_among y (stmts_names (filled gap old))
    names_filled (at_front rest) = followed_names new rest ∙ (ap (λ (b : Bool). b || is_among y (stmts_names rest)) same ∙ sym (followed_names old rest))
    names_filled (past s gap) = both (stmt_names s) (stmts_names (filled gap new)) (stmt_names s) (stmts_names (filled gap old)) refl (names_filled gap)
    names_filled (in_then c gap b rest) =
        both (stmt_names (If c (filled gap new) b)) (stmts_names rest) (stmt_names (If c (filled gap old) b)) (stmts_names rest)
        (both (cond_names c ++ stmts_names (filled gap new)) (stmts_names b) (cond_names c ++ stmts_names (filled gap old)) (stmts_names b)
        (both (cond_names c) (stmts_names (filled gap new)) (cond_names c) (stmts_names (filled gap old)) refl (names_filled gap)) refl) refl
    names_filled (in_else c a gap rest) =
        both (stmt_names (If c a (filled gap new))) (stmts_names rest) (stmt_names (If c a (filled gap old))) (stmts_names rest)
        (both (cond_names c ++ stmts_names a) (stmts_names (filled gap new)) (cond_names c ++ stmts_names a) (stmts_names (filled gap old)) refl (names_filled gap)) refl
    names_filled (in_body h gap rest) =
        both (stmt_names (Do h (filled gap new))) (stmts_names rest) (stmt_names (Do h (filled gap old))) (stmts_names rest)
        (both (head_names h) (stmts_names (filled gap new)) (head_names h) (stmts_names (filled gap old)) refl (names_filled gap)) refl

module _ (t0 : ProgramTree) (s : ℕ) (m : Match t0 s) (x : MayFuse t0 s m) where
  abbrev n : Neighbour t0 s
  n = m.neighbour

  abbrev second : StmtTrees
  second = renamed_body m.neighbour.own m.neighbour.next m.neighbour.next_body

  abbrev bodies : StmtTrees
  bodies = followed m.neighbour.own_body (followed m.neighbour.between second)

  -- what stands in the head of a DO behind its rejected names and its variable
  abbrev limits_in : Head → List (List ℕ)
  limits_in h = expr_names h.first ++ expr_names h.last ++ expr_names h.step ++ h.private

  same_limits_in : limits_in n.next ≡ limits_in n.own
  same_limits_in = λ i. expr_names (sym m.alike.first i) ++ expr_names (sym m.alike.last i) ++ expr_names (sym m.alike.step i) ++ (x.next_unprivate ∙ sym x.own_unprivate) i

  module _ (y : List ℕ) where
    abbrev its : Bool
    its = is_among y (m.neighbour.own.variable ∷ limits_in m.neighbour.own)

    pair_names : is_among y (stmts_names (joined_loop n)) ≡ is_among y (stmts_names (renamed_pair n))
    pair_names =
        ap (is_among y) (append-nil (head_names (joined_head n.own n.next) ++ stmts_names bodies))
        ∙ among_append y (head_names (joined_head n.own n.next)) (stmts_names bodies)
        ∙ (λ i. one_head i || bodies_names i)
        ∙ table (is_among y n.own.rejected) its (is_among y (stmts_names n.own_body)) (is_among y (stmts_names n.between)) (is_among y n.next.rejected) (is_among y (stmts_names second))
        ∙ sym (among_append y (head_names n.own ++ stmts_names n.own_body) (stmts_names (followed n.between (alone (renamed_next n))))
        ∙ (λ i. (among_append y (head_names n.own) (stmts_names n.own_body) ∙ ap (λ (b : Bool). b || is_among y (stmts_names n.own_body)) (among_append y n.own.rejected (n.own.variable ∷ limits_in n.own))) i || next_names i))
      where
        one_head : is_among y (head_names (joined_head n.own n.next)) ≡ ((is_among y n.own.rejected || is_among y n.next.rejected) || its)
        one_head =
            among_append y (with_names [] (n.own.rejected ++ n.next.rejected)) (n.own.variable ∷ limits_in n.own)
            ∙ ap (λ (b : Bool). b || its) (among_collected y [] (n.own.rejected ++ n.next.rejected) ∙ among_append y n.own.rejected n.next.rejected)

        bodies_names : is_among y (stmts_names bodies) ≡ (is_among y (stmts_names n.own_body) || (is_among y (stmts_names n.between) || is_among y (stmts_names second)))
        bodies_names = followed_names y n.own_body (followed n.between second) ∙ ap (λ (b : Bool). is_among y (stmts_names n.own_body) || b) (followed_names y n.between second)

        next_names : is_among y (stmts_names (followed n.between (alone (renamed_next n)))) ≡ (is_among y (stmts_names n.between) || ((is_among y n.next.rejected || its) || is_among y (stmts_names second)))
        next_names =
            followed_names y n.between (alone (renamed_next n))
            ∙ ap (λ (b : Bool). is_among y (stmts_names n.between) || b)
            (ap (is_among y) (append-nil (stmt_names (renamed_next n)))
            ∙ among_append y (n.next.rejected ++ n.own.variable ∷ limits_in n.next) (stmts_names second)
            ∙ ap (λ (b : Bool). b || is_among y (stmts_names second))
            (among_append y n.next.rejected (n.own.variable ∷ limits_in n.next) ∙ ap (λ (zs : List (List ℕ)). is_among y n.next.rejected || is_among y (n.own.variable ∷ zs)) same_limits_in))

        table : (r w b c q d : Bool) → (((r || q) || w) || (b || (c || d))) ≡ (((r || w) || b) || (c || ((q || w) || d)))
        table true w b c q d = refl
        table false true b c true d = refl
        table false true b c false d = refl
        table false false true c true d = refl
        table false false true c false d = refl
        table false false false true true d = refl
        table false false false true false d = refl
        table false false false false true d = refl
        table false false false false false d = refl

    same_names : is_among y (names_of (fused n)) ≡ is_among y (names_of (renamed n))
    same_names =
        names_occur (fused n) y ∙ occurs_append y (flat_map decl_sites t0.decls) (stmts_sites (fused n).body)
        ∙ ap (λ (b : Bool). occurs y (flat_map decl_sites t0.decls) || b)
        (ap (is_among y) (stmts_at (fused n).body) ∙ names_filled y (renamed_pair n) (joined_loop n) pair_names n.gap ∙ sym (ap (is_among y) (stmts_at (renamed n).body)))
        ∙ sym (names_occur (renamed n) y ∙ occurs_append y (flat_map decl_sites t0.decls) (stmts_sites (renamed n).body))

  -- names stand for the same
  pub kinds_alike : (y : List ℕ) → kind_in (fused n) y ≡ kind_in (renamed n) y
  kinds_alike = same_kinds (renamed n) (fused n) refl same_names

  -- so both programs are run by one setting
  pub setting_alike : setting_of (fused n) ≡ setting_of (renamed n)
  setting_alike = λ i. record { bounds = λ y. bounds_of (kinds_alike y i); constants = same_values (renamed n) (fused n) refl i; number = λ k. k }

pub fused_kinds : (t : ProgramTree) (s : ℕ) (m : Match t s) → IsFusable t s m → (y : List ℕ) → kind_in (fused m.neighbour) y ≡ kind_in (renamed m.neighbour) y
fused_kinds t s m x = kinds_alike t s m (may_fuse t s m x)

-- the one DO has the rejected names of both, so none, where they have none
module _ {t0 : ProgramTree} {s : ℕ} (n : Neighbour t0 s) where
  none_in : (xs : List (List ℕ)) → has_some xs ≡ false → xs ≡ []
  none_in [] h = refl
  none_in (x ∷ xs) h = absurd cc

  renamed_rejection : some_rejection (renamed_body n.own n.next n.next_body) ≡ some_rejection n.next_body
  renamed_rejection = by (is_same_text n.own.variable n.next.variable)
    where
      by : (b : Bool) → some_rejection (if b then n.next_body else statements_substituted n.next.variable (Var n.own.variable) n.next_body) ≡ some_rejection n.next_body
      by true = refl
      by false = rejections_kept n.next.variable (Var n.own.variable) n.next_body

  pair_unrejected : some_rejection (more_stmts (Do n.own n.own_body) (followed n.between (alone (Do n.next n.next_body)))) ≡ false → some_rejection (joined_loop n) ≡ false
  pair_unrejected h =
      let parts = or_none (has_rejection (Do n.own n.own_body)) (some_rejection (followed n.between (alone (Do n.next n.next_body)))) h in
      let own = or_none (has_some n.own.rejected) (some_rejection n.own_body) parts.0 in
      let rest = or_none (some_rejection n.between) (some_rejection (alone (Do n.next n.next_body))) (sym (followed_rejection n.between (alone (Do n.next n.next_body))) ∙ parts.1) in
      let next = or_none (has_some n.next.rejected) (some_rejection n.next_body) (or_none (has_rejection (Do n.next n.next_body)) false rest.1).0 in
      let bodies : some_rejection (followed n.own_body (followed n.between (renamed_body n.own n.next n.next_body))) ≡ false =
      followed_rejection n.own_body (followed n.between (renamed_body n.own n.next n.next_body))
      ∙ (λ i. own.1 i || (followed_rejection n.between (renamed_body n.own n.next n.next_body) ∙ (λ j. rest.0 j || (renamed_rejection ∙ next.1) j)) i) in
      (λ i. (has_some (with_names [] (none_in n.own.rejected own.0 i ++ none_in n.next.rejected next.0 i)) || bodies i) || false)

  pub fused_unrejected : some_rejection t0.body ≡ false → some_rejection (fused n).body ≡ false
  fused_unrejected h =
      filled_unrejected n.gap (more_stmts (Do n.own n.own_body) (followed n.between (alone (Do n.next n.next_body)))) (joined_loop n) pair_unrejected (ap some_rejection (sym n.stands) ∙ h)
