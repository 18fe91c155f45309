-- A program with a lowered DO has the named constants of the program and the same variables of DO loops; so views of pairs are the same, where what the outermost DO assigns is the same but for names that stand in no bound and no subscript.
use Rattle.std.proofs.Common.{◌≡◌, ℕ, ◌+◌, List, [], ◌∷◌, ◌++◌, map, Bool, true, false, ◌||◌, refl, sym, ap, ◌∙◌, inl, inr, append-nil, append_assoc}
use Rattle.std.specs.List.{flat_map}
use Rattle.ped_base.specs.Lists.{is_same_text, is_among}
use Rattle.ped_tree.proofs.NameLaws.Collected.{among_append, among_collected}
use Rattle.ped_tree.specs.Tree.{Head, StmtTree, StmtTrees, Assign, If, Do, Print, Read, Stop, Comment, no_stmts, more_stmts, DeclaratorTree, DeclTree, Program, Implicit, Integer, Dimension, Parameter, Save, Remark, ProgramTree}
use Rattle.ped_tree.specs.Accesses.{Access}
use Rattle.ped_tree.specs.NamesIn.{loop_variables, all_loop_variables}
use Rattle.ped_tree.specs.Numbering.{statement_count, statements_count, statement_with}
use Rattle.ped_rules.specs.ped_symbols.specs.Sites.{declaration, decl_sites, stmts_sites}
use Rattle.ped_rules.specs.ped_symbols.specs.Values.{Values, behind_decl}
use Rattle.ped_rules.specs.ped_symbols.specs.Arrays.{Arrays}
use Rattle.ped_rules.specs.ped_symbols.specs.NameRefusals.{Before, behind_site, at_first, behind_sites, IsValid}
use Rattle.ped_rules.specs.ped_symbols.specs.Kinds.{at_last, table_of}
use Rattle.ped_rules.specs.ped_symbols.proofs.RightUseLaws.Quiet.{behind_append, said_stays, stmts_declare_nothing}
use Rattle.ped_refs.specs.References.{Reference, references, outermost}
use Rattle.ped_rules.specs.ped_affine.specs.PairViews.{heads_of}
use Rattle.ped_rules.specs.ped_graph.specs.Dependences.{assigned_by, setting_in, site_of}
use Rattle.ped_rules.specs.ped_flow.specs.Questions.{LoopOf}
use Rattle.ped_rules.specs.ped_steps.specs.Replacing.{followed, alone}
use Rattle.ped_rules.specs.ped_steps.specs.Runs.Gaps.{Gap, at_front, past, in_then, in_else, in_body, filled}
use Rattle.ped_rules.specs.ped_laws.specs.Acts.Orders.{IsIn}
use Rattle.ped_reduce.specs.Lists.{without_list}
use Rattle.ped_reduce.specs.Lowering.{Partials, zeros, all_summed, exits, bare, lowered_loop}
use Rattle.ped_reduce.proofs.Resembling.{Becomes, AllBecome, GapBecomes, filled_pasts}
use Rattle.ped_reduce.proofs.LoweredStages.{IsResembling}
use Rattle.ped_reduce.proofs.LoweredPaths.{all_same_loops}
use Rattle.ped_reduce.proofs.LoweredBehind.{without_loops}
use Rattle.ped_reduce.proofs.ResemblingViews.{AgreeBut, AreClean, HeadsClean, same_view}
use Rattle.ped_reduce.proofs.ResemblingReferences.{From}
use Rattle.ped_reduce.proofs.EdgesResemble.{ViewsResemble, same_common, same_heads_of}

-- the constants behind declarations
abbrev decl_values : Values → List DeclTree → Values
decl_values vs [] = vs
decl_values vs (d ∷ ds) = decl_values (behind_decl vs d) ds

declared_values : (b : Before) (ds : List DeclTree) → (behind_sites b (flat_map decl_sites ds)).values ≡ decl_values b.values ds
declared_values b [] = refl
declared_values b (Program x ∷ ds) = declared_values (behind_site b (declaration (Program x))) ds
declared_values b (Implicit ∷ ds) = declared_values (behind_site b (declaration Implicit)) ds
declared_values b (Integer ns ∷ ds) = declared_values (behind_site b (declaration (Integer ns))) ds
declared_values b (Dimension ns ∷ ds) = declared_values (behind_site b (declaration (Dimension ns))) ds
declared_values b (Parameter vs ∷ ds) = declared_values (behind_site b (declaration (Parameter vs))) ds
declared_values b (Save ns ∷ ds) = declared_values (behind_site b (declaration (Save ns))) ds
declared_values b (Remark text ∷ ds) = declared_values b ds

-- further INTEGER declarations add none
further_values : (vs : Values) (ds : List DeclTree) (more : List (List DeclaratorTree)) → decl_values vs (ds ++ map Integer more) ≡ decl_values vs ds
further_values vs [] [] = refl
further_values vs [] (d ∷ more) = further_values vs [] more
further_values vs (d ∷ ds) more = further_values (behind_decl vs d) ds more

last_values : (t : ProgramTree) → (at_last t).values ≡ decl_values [] t.decls
last_values t =
    ap (λ (b : Before). b.values) (behind_append at_first (flat_map decl_sites t.decls) (stmts_sites t.body))
    ∙ ap (λ (p : Values × Arrays). p.0) (said_stays (behind_sites at_first (flat_map decl_sites t.decls)) (stmts_sites t.body) (stmts_declare_nothing t.body))
    ∙ declared_values at_first t.decls

pub further_constants : (t u : ProgramTree) (more : List (List DeclaratorTree)) → u.decls ≡ t.decls ++ map Integer more → (table_of u).constants ≡ (table_of t).constants
further_constants t u more e = last_values u ∙ ap (decl_values []) e ∙ further_values [] t.decls more ∙ sym (last_values t)

module _ (x : List ℕ) where
  -- a DO of the statements has this variable
  abbrev has : StmtTrees → Bool
  has ss = is_among x (all_loop_variables ss)

  loops_of : (a b : StmtTrees) → all_loop_variables (followed a b) ≡ all_loop_variables a ++ all_loop_variables b
  loops_of no_stmts b = refl
  loops_of (more_stmts s a) b = ap (λ (z : List (List ℕ)). loop_variables s ++ z) (loops_of a b) ∙ sym (append_assoc (loop_variables s) (all_loop_variables a) (all_loop_variables b))

  followed_has : (a b : StmtTrees) → has (followed a b) ≡ (has a || has b)
  followed_has a b = ap (is_among x) (loops_of a b) ∙ among_append x (all_loop_variables a) (all_loop_variables b)

  alone_has : (s : StmtTree) → has (alone s) ≡ is_among x (loop_variables s)
  alone_has s = ap (is_among x) (append-nil (loop_variables s))

  no_zeros : (v : List ℕ) (ps : List Partials) → all_loop_variables (zeros v ps) ≡ []
  no_zeros v [] = refl
  no_zeros v (p ∷ ps) = no_zeros v ps

  no_exits : (v : List ℕ) (ps : List Partials) → all_loop_variables (exits v ps) ≡ []
  no_exits v [] = refl
  no_exits v (p ∷ ps) = no_exits v ps

  twice : (a b : Bool) → ((a || b) || (a || false)) ≡ (a || b)
  twice true b = refl
  twice false true = refl
  twice false false = refl

  lowered_has : (parallel : Bool) (ps : List Partials) (h : Head) (body : StmtTrees) → has (lowered_loop parallel ps h body) ≡ (is_same_text x h.variable || has body)
  lowered_has parallel ps h body =
      let v = h.variable in
      let mine = followed (zeros v ps) (all_summed v ps (without_list body)) in
      let inner : all_loop_variables mine ≡ all_loop_variables body =
      loops_of (zeros v ps) (all_summed v ps (without_list body)) ∙ (λ i. no_zeros v ps i ++ (all_same_loops v ps (without_list body) ∙ without_loops body) i) in
      let behind : has (alone (Do (bare h) (exits v ps))) ≡ (is_same_text x v || false) =
      alone_has (Do (bare h) (exits v ps)) ∙ (λ i. is_same_text x v || is_among x (no_exits v ps i)) in
      among_append x (v ∷ all_loop_variables mine) (all_loop_variables (alone (Do (bare h) (exits v ps))))
      ∙ (λ i. (is_same_text x v || is_among x (inner i)) || behind i)
      ∙ twice (is_same_text x v) (has body)

  if_has : (a b rest : StmtTrees) → is_among x ((all_loop_variables a ++ all_loop_variables b) ++ all_loop_variables rest) ≡ ((has a || has b) || has rest)
  if_has a b rest =
      among_append x (all_loop_variables a ++ all_loop_variables b) (all_loop_variables rest)
      ∙ ap (λ (z : Bool). z || has rest) (among_append x (all_loop_variables a) (all_loop_variables b))

  do_has : (v : List ℕ) (a rest : StmtTrees) → is_among x ((v ∷ all_loop_variables a) ++ all_loop_variables rest) ≡ ((is_same_text x v || has a) || has rest)
  do_has v a rest = among_append x (v ∷ all_loop_variables a) (all_loop_variables rest)

  module _ (t : ProgramTree) (live : List ℕ) where
    mutual
      one_has : (s : StmtTree) (n : ℕ) (ws : StmtTrees) → Becomes t live s n ws → has ws ≡ is_among x (loop_variables s)
      one_has (Assign left right) n ws is = ap has is
      one_has (If c a b) n ws (y, z, p, q, is) =
          let first = all_has a (n + 1) y p in
          let second = all_has b (n + 1 + statements_count a) z q in
          ap has is ∙ alone_has (If c y z) ∙ among_append x (all_loop_variables y) (all_loop_variables z) ∙ (λ i. first i || second i) ∙ sym (among_append x (all_loop_variables a) (all_loop_variables b))
      one_has (Do h body) n ws (inl (y, p, is)) = ap has is ∙ alone_has (Do h y) ∙ ap (λ (b : Bool). is_same_text x h.variable || b) (all_has body (n + 1) y p)
      one_has (Do h body) n ws (inr (ps, low, sum, is)) = ap has is ∙ lowered_has true ps h body
      one_has (Print items) n ws is = ap has is
      one_has (Read items) n ws is = ap has is
      one_has Stop n ws is = ap has is
      one_has (Comment text) n ws is = ap has is

      all_has : (ss : StmtTrees) (n : ℕ) (ws : StmtTrees) → AllBecome t live ss n ws → has ws ≡ has ss
      all_has no_stmts n ws is = ap has is
      all_has (more_stmts s rest) n ws (y, z, p, q, is) =
          let first = one_has s n y p in
          let second = all_has rest (n + statement_count s) z q in
          ap has is ∙ followed_has y z ∙ (λ i. first i || second i) ∙ sym (among_append x (loop_variables s) (all_loop_variables rest))

    module _ (old new : StmtTrees) (same : has new ≡ has old) where
      abbrev filled_new : Gap → Bool
      filled_new g = has (filled g new)

      pub gap_has : (gap : Gap) (n : ℕ) (other : Gap) → GapBecomes t live gap n other → has (filled other new) ≡ has (filled gap old)
      gap_has (at_front rest) n other is = ap filled_new is ∙ followed_has new rest ∙ ap (λ (b : Bool). b || has rest) same ∙ sym (followed_has old rest)
      gap_has (past s gap) n other (y, g, p, q, is) =
          let first = one_has s n y p in
          let second = gap_has gap (n + statement_count s) g q in
          ap filled_new is ∙ ap has (filled_pasts y g new) ∙ followed_has y (filled g new) ∙ (λ i. first i || second i) ∙ sym (among_append x (loop_variables s) (all_loop_variables (filled gap old)))
      gap_has (in_then c gap b rest) n other (g, q, is) =
          let inner = gap_has gap (n + 1) g q in
          ap filled_new is ∙ if_has (filled g new) b rest ∙ ap (λ (z : Bool). (z || has b) || has rest) inner ∙ sym (if_has (filled gap old) b rest)
      gap_has (in_else c a gap rest) n other (y, g, p, q, is) =
          let first = all_has a (n + 1) y p in
          let inner = gap_has gap (n + 1 + statements_count a) g q in
          ap filled_new is ∙ if_has y (filled g new) rest ∙ (λ i. (first i || inner i) || has rest) ∙ sym (if_has a (filled gap old) rest)
      gap_has (in_body h gap rest) n other (g, q, is) =
          let inner = gap_has gap (n + 1) g q in
          ap filled_new is ∙ do_has h.variable (filled g new) rest ∙ ap (λ (z : Bool). (is_same_text x h.variable || z) || has rest) inner ∙ sym (do_has h.variable (filled gap old) rest)

module _ (t u : ProgramTree) (s k : ℕ) (loop_is : LoopOf t s) (m : IsResembling t s loop_is u k) where
  -- the same variables of DO loops
  pub same_loops : (x : List ℕ) → is_among x (all_loop_variables u.body) ≡ is_among x (all_loop_variables t.body)
  same_loops x =
      ap (has x) m.new
      ∙ gap_has x t m.live (alone (Do loop_is.head loop_is.body)) (lowered_loop false m.partials loop_is.head loop_is.body)
      (lowered_has x false m.partials loop_is.head loop_is.body ∙ sym (alone_has x (Do loop_is.head loop_is.body))) m.gap 1 m.other m.alike
      ∙ sym (ap (has x) m.stands)

  module _ (valid : IsValid t) (new_valid : IsValid u) (bad : List ℕ → Bool) where
    -- what is asked of references: the outermost DO assigns the same but for some names, and these stand in no bound and no subscript
    pub record IsClear (a : Reference) (x : From t u s k loop_is m valid a) : Type 0 where
      pub assigned : (y : List ℕ) → bad y ≡ false → is_among y (assigned_by (statement_with (outermost a) u)) ≡ is_among y (assigned_by (statement_with (outermost x.source) t))
      pub heads : HeadsClean bad (heads_of x.source.nest)
      pub subscripts : AreClean bad x.source.access.subscripts

    agree : (a : Reference) (x : From t u s k loop_is m valid a) → IsClear a x → AgreeBut bad (setting_in t (outermost x.source)) (setting_in u (outermost a))
    agree a x clear = record {
      constants = further_constants t u m.more m.decls;
      loops = λ y. among_collected y [] (all_loop_variables u.body) ∙ same_loops y ∙ sym (among_collected y [] (all_loop_variables t.body));
      assigned = λ y h. among_collected y [] (assigned_by (statement_with (outermost a) u)) ∙ clear.assigned y h ∙ sym (among_collected y [] (assigned_by (statement_with (outermost x.source) t)));
    }

    -- then the views are the same
    pub views_resemble : ((a : Reference) (x : From t u s k loop_is m valid a) → IsIn a (references u) → IsClear a x) → ViewsResemble t u s k loop_is m valid new_valid
    views_resemble clear a b x y i j =
        let p = clear a x i in
        let q = clear b y j in
        same_view bad (setting_in t (outermost x.source)) (setting_in u (outermost a)) (agree a x p) (site_of x.source) (site_of y.source) (site_of a) (site_of b)
        (record {
          source = same_heads_of t u s k loop_is m valid new_valid a x;
          sink = same_heads_of t u s k loop_is m valid new_valid b y;
          common = same_common t u s k loop_is m valid new_valid a b x y;
          source_subscripts = ap (λ (w : Access). w.subscripts) x.access;
          sink_subscripts = ap (λ (w : Access). w.subscripts) y.access;
        })
        p.heads q.heads p.subscripts q.subscripts
