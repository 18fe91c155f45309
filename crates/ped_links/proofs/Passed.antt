-- A walk over statements, part by part.
use Rattle.std.proofs.Common.{◌≡◌, ℕ, ◌+◌, List, [], ◌∷◌, ◌++◌, Option, Some, None, map, length, drop, Bool, true, false, refl, sym, ap, subst, ◌∙◌, append_assoc, append-nil, zero, suc}
use Rattle.std.specs.List.{flat_map, list_any}
use Rattle.std.specs.Prelude.{◌||◌}
use Rattle.std.proofs.lemmas.List.{length-append, drop-drop, map-append, map_push}
use Rattle.std.specs.Global.{Vec}
use Rattle.ped_tree.specs.Tree.{ExprTree, CondTree, Head, StmtTree, StmtTrees, Assign, If, Do, DeclTree, Program, Implicit, Integer, Dimension, Parameter, Save, Remark}
use Rattle.ped_tree.specs.Views.{pack_stmts}
use Rattle.ped_units.specs.ped_valid.specs.ped_symbols.specs.NameRefusals.{next_line}
use Rattle.ped_units.specs.ped_valid.specs.ped_symbols.specs.Sites.{Site, statement, stmt_sites, stmts_sites, decl_sites, private_site}
use Rattle.ped_units.specs.Forms.{Called}
use Rattle.ped_units.specs.Units.{call_of}
use Rattle.ped_units.specs.Linking.{Placed, placed, calls_in, all_calls_in}
use Rattle.ped_links.specs.Placing.{around_of, call_here, placed_call, private_line, private_lines, Passes}
use Rattle.ped_links.specs.declared.placing.Around.{Around}
use Rattle.ped_links.specs.declared.placing.PlacedCall.{PlacedCall}
use Rattle.ped_links.specs.declared.placing.Found.{Found}

private_append : (formals : List (List ℕ)) (lines : List ℕ) (ss ts : List Site) → private_lines formals lines (ss ++ ts) ≡ private_lines formals lines ss ++ private_lines formals (drop (length ss) lines) ts
private_append formals lines [] ts = refl
private_append formals lines (s ∷ ss) ts =
    ap (λ (ns : List ℕ). private_line formals (next_line lines) s ++ ns) (private_append formals (drop 1 lines) ss ts ∙ ap (λ (ls : List ℕ). private_lines formals (drop 1 lines) ss ++ private_lines formals ls ts) (behind lines (length ss)))
    ∙ sym (append_assoc (private_line formals (next_line lines) s) (private_lines formals (drop 1 lines) ss) (private_lines formals (drop (suc (length ss)) lines) ts))
  where
    behind : (ls : List ℕ) (n : ℕ) → drop n (drop 1 ls) ≡ drop (suc n) ls
    behind [] zero = refl
    behind [] (suc n) = refl
    behind (l ∷ ls) n = refl

-- nothing is passed
pub passes_nothing : (formals : List (List ℕ)) (found : Found) (lines : List ℕ) → Passes formals [] [] found lines found lines
passes_nothing formals found lines = record { over = refl; calls = sym (append-nil found.calls.items); private = sym (append-nil found.private.items) }

-- one behind the other
pub passes_both : (formals : List (List ℕ)) (ss ts : List Site) (cs ds : List PlacedCall) (f g h : Found) (l m n : List ℕ) → Passes formals ss cs f l g m → Passes formals ts ds g m h n → Passes formals (ss ++ ts) (cs ++ ds) f l h n
passes_both formals ss ts cs ds f g h l m n a b = record {
  over = b.over ∙ ap (drop (length ts)) a.over ∙ drop-drop (length ts) (length ss) l ∙ ap (λ (k : ℕ). drop k l) (sym (length-append ss ts));
  calls = b.calls ∙ ap (λ (xs : List PlacedCall). xs ++ ds) a.calls ∙ append_assoc f.calls.items cs ds;
  private = b.private ∙ ap (λ (xs : List ℕ). xs ++ private_lines formals m ts) a.private
      ∙ append_assoc f.private.items (private_lines formals l ss) (private_lines formals m ts)
      ∙ ap (λ (ls : List ℕ). f.private.items ++ (private_lines formals l ss ++ private_lines formals ls ts)) a.over
      ∙ ap (λ (xs : List ℕ). f.private.items ++ xs) (sym (private_append formals l ss ts));
}

-- the same CALLs, told otherwise
pub passes_as : (formals : List (List ℕ)) (ss ts : List Site) (cs ds : List PlacedCall) (f g : Found) (l m : List ℕ) → ss ≡ ts → cs ≡ ds → Passes formals ss cs f l g m → Passes formals ts ds f l g m
passes_as formals ss ts cs ds f g l m s c p = subst (λ (xs : List Site). Passes formals xs ds f l g m) s (subst (λ (xs : List PlacedCall). Passes formals ss xs f l g m) c p)

-- one site that is no PRIVATE statement
pub passes_one : (formals : List (List ℕ)) (s : Site) (cs : List PlacedCall) (f g : Found) (l m : List ℕ) → private_line formals (next_line l) s ≡ [] → m ≡ drop 1 l → g.calls.items ≡ f.calls.items ++ cs → g.private.items ≡ f.private.items → Passes formals (s ∷ []) cs f l g m
passes_one formals s cs f g l m none over calls private = record {
  over = over;
  calls = calls;
  private = private ∙ sym (append-nil f.private.items) ∙ ap (λ (xs : List ℕ). f.private.items ++ xs) (sym (append-nil (private_line formals (next_line l) s) ∙ none));
}

sites_append : (ss : List StmtTree) (s : StmtTree) → stmts_sites (pack_stmts (ss ++ s ∷ [])) ≡ stmts_sites (pack_stmts ss) ++ stmt_sites s
sites_append [] s = append-nil (stmt_sites s)
sites_append (t ∷ ts) s = ap (λ (xs : List Site). stmt_sites t ++ xs) (sites_append ts s) ∙ sym (append_assoc (stmt_sites t) (stmts_sites (pack_stmts ts)) (stmt_sites s))

calls_append : (loops : List Head) (lines : List ℕ) (ss : List StmtTree) (s : StmtTree) → all_calls_in loops lines (pack_stmts (ss ++ s ∷ [])) ≡ all_calls_in loops lines (pack_stmts ss) ++ calls_in loops (drop (length (stmts_sites (pack_stmts ss))) lines) s
calls_append loops lines [] s = append-nil (calls_in loops lines s)
calls_append loops lines (t ∷ ts) s =
    ap (λ (xs : List Placed). calls_in loops lines t ++ xs) (calls_append loops (drop (length (stmt_sites t)) lines) ts s)
    ∙ sym (append_assoc (calls_in loops lines t) (all_calls_in loops (drop (length (stmt_sites t)) lines) (pack_stmts ts)) (calls_in loops (drop (length (stmts_sites (pack_stmts ts))) (drop (length (stmt_sites t)) lines)) s))
    ∙ ap (λ (ls : List ℕ). (calls_in loops lines t ++ all_calls_in loops (drop (length (stmt_sites t)) lines) (pack_stmts ts)) ++ calls_in loops ls s)
    (drop-drop (length (stmts_sites (pack_stmts ts))) (length (stmt_sites t)) lines ∙ ap (λ (k : ℕ). drop k lines) (sym (length-append (stmt_sites t) (stmts_sites (pack_stmts ts)))))

-- one statement more
pub passes_more : (formals : List (List ℕ)) (loops : List Head) (ss all : List StmtTree) (s : StmtTree) (f g h : Found) (l m n : List ℕ) → all ≡ ss ++ s ∷ []
    → Passes formals (stmts_sites (pack_stmts ss)) (map placed_call (all_calls_in loops l (pack_stmts ss))) f l g m
    → Passes formals (stmt_sites s) (map placed_call (calls_in loops m s)) g m h n
    → Passes formals (stmts_sites (pack_stmts all)) (map placed_call (all_calls_in loops l (pack_stmts all))) f l h n
passes_more formals loops ss all s f g h l m n e a b =
    let same : map placed_call (all_calls_in loops l (pack_stmts ss)) ++ map placed_call (calls_in loops m s) ≡ map placed_call (all_calls_in loops l (pack_stmts (ss ++ s ∷ []))) =
    sym (map-append placed_call (all_calls_in loops l (pack_stmts ss)) (calls_in loops m s))
    ∙ ap (λ (ls : List ℕ). map placed_call (all_calls_in loops l (pack_stmts ss) ++ calls_in loops ls s)) a.over
    ∙ ap (map placed_call) (sym (calls_append loops l ss s)) in
    subst (λ (xs : List StmtTree). Passes formals (stmts_sites (pack_stmts xs)) (map placed_call (all_calls_in loops l (pack_stmts xs))) f l h n) (sym e)
    (passes_as formals (stmts_sites (pack_stmts ss) ++ stmt_sites s) (stmts_sites (pack_stmts (ss ++ s ∷ []))) _ _ f h l n (sym (sites_append ss s)) same
    (passes_both formals (stmts_sites (pack_stmts ss)) (stmt_sites s) _ _ f g h l m n a b))

or_false : (b : Bool) → b ≡ (b || false)
or_false true = refl
or_false false = refl

or_moved : (a b c : Bool) → ((a || b) || c) ≡ (a || (b || c))
or_moved true b c = refl
or_moved false b c = refl

-- what loops say, and one more in them
pub within_loops : (loops : List Head) (h : Head) (around within : Around) → around ≡ around_of loops
    → within ≡ record { variables = around.variables ++ h.variable ∷ []; private = around.private ++ h.private; parallel = around.parallel || h.parallel } → within ≡ around_of (loops ++ h ∷ [])
within_loops loops h around within a w =
    w ∙ ap (λ (r : Around). record { variables = r.variables ++ h.variable ∷ []; private = r.private ++ h.private; parallel = r.parallel || h.parallel }) a ∙ together (variables loops) (private loops) (parallel loops)
  where
    variables : (ls : List Head) → map (λ (k : Head). k.variable) ls ++ h.variable ∷ [] ≡ map (λ (k : Head). k.variable) (ls ++ h ∷ [])
    variables ls = sym (map_push (λ (k : Head). k.variable) ls h)

    private : (ls : List Head) → flat_map (λ (k : Head). k.private) ls ++ h.private ≡ flat_map (λ (k : Head). k.private) (ls ++ h ∷ [])
    private [] = sym (append-nil h.private)
    private (k ∷ ks) = append_assoc k.private (flat_map (λ (r : Head). r.private) ks) h.private ∙ ap (λ (xs : List (List ℕ)). k.private ++ xs) (private ks)

    parallel : (ls : List Head) → (list_any (λ (k : Head). k.parallel) ls || h.parallel) ≡ list_any (λ (k : Head). k.parallel) (ls ++ h ∷ [])
    parallel [] = or_false h.parallel
    parallel (k ∷ ks) = or_moved k.parallel (list_any (λ (r : Head). r.parallel) ks) h.parallel ∙ ap (λ (b : Bool). k.parallel || b) (parallel ks)

    said : List (List ℕ) → List (List ℕ) → Bool → Around
    said vs ps b = record { variables = vs; private = ps; parallel = b }

    together : {vs ws : List (List ℕ)} {ps qs : List (List ℕ)} {b c : Bool} → vs ≡ ws → ps ≡ qs → b ≡ c → said vs ps b ≡ said ws qs c
    together v p b = λ i. said (v i) (p i) (b i)

-- the CALL that a statement is, where it is one
pub call_is_here : (loops : List Head) (around : Around) (lines : List ℕ) (o : Option Called) → around ≡ around_of loops → call_here around (next_line lines) o ≡ map placed_call (placed loops lines o)
call_is_here loops around lines None a = refl
call_is_here loops around lines (Some c) a = ap (λ (r : Around). call_here r (next_line lines) (Some c)) a

-- the line of a statement, and what is found there
pub passes_line : (formals : List (List ℕ)) (s : StmtTree) (cs : List PlacedCall) (f g h : Found) (l m n : List ℕ) → m ≡ drop 1 l → g ≡ f → n ≡ m → h.calls.items ≡ g.calls.items ++ cs → h.private ≡ g.private → Passes formals (statement s ∷ []) cs f l h n
passes_line formals s cs f g h l m n over same stays calls private =
    passes_one formals (statement s) cs f h l n refl (stays ∙ over) (calls ∙ ap (λ (x : Found). x.calls.items ++ cs) same) (ap (λ (v : Vec ℕ). v.items) private ∙ ap (λ (x : Found). x.private.items) same)

-- nothing is found there
pub passes_only_line : (formals : List (List ℕ)) (s : StmtTree) (f g : Found) (l m : List ℕ) → m ≡ drop 1 l → g ≡ f → Passes formals (statement s ∷ []) [] f l g m
passes_only_line formals s f g l m over same = passes_one formals (statement s) [] f g l m refl over (ap (λ (x : Found). x.calls.items) same ∙ sym (append-nil f.calls.items)) (ap (λ (x : Found). x.private.items) same)

-- a block IF
pub passes_if : (formals : List (List ℕ)) (loops : List Head) (c : CondTree) (t e : StmtTrees) (f g h i : Found) (l m n o : List ℕ) → m ≡ drop 1 l → g ≡ f
    → Passes formals (stmts_sites t) (map placed_call (all_calls_in loops m t)) g m h n → Passes formals (stmts_sites e) (map placed_call (all_calls_in loops n e)) h n i o
    → Passes formals (stmt_sites (If c t e)) (map placed_call (calls_in loops l (If c t e))) f l i o
passes_if formals loops c t e f g h i l m n o over same a b =
    let there : n ≡ drop (1 + length (stmts_sites t)) l = a.over ∙ ap (drop (length (stmts_sites t))) over ∙ drop-drop (length (stmts_sites t)) 1 l in
    let calls : map placed_call (all_calls_in loops m t) ++ map placed_call (all_calls_in loops n e) ≡ map placed_call (calls_in loops l (If c t e)) =
    sym (map-append placed_call (all_calls_in loops m t) (all_calls_in loops n e))
    ∙ ap (λ (ls : List ℕ). map placed_call (all_calls_in loops ls t ++ all_calls_in loops n e)) over
    ∙ ap (λ (ls : List ℕ). map placed_call (all_calls_in loops (drop 1 l) t ++ all_calls_in loops ls e)) there in
    passes_as formals (stmt_sites (If c t e)) (stmt_sites (If c t e)) (map placed_call (all_calls_in loops m t) ++ map placed_call (all_calls_in loops n e)) _ f i l o refl calls
    (passes_both formals (statement (If c t e) ∷ []) (stmts_sites t ++ stmts_sites e) [] (map placed_call (all_calls_in loops m t) ++ map placed_call (all_calls_in loops n e)) f g i l m o (passes_only_line formals (If c t e) f g l m over same)
    (passes_both formals (stmts_sites t) (stmts_sites e) (map placed_call (all_calls_in loops m t)) (map placed_call (all_calls_in loops n e)) g h i m n o a b))

-- a DO with its body
pub passes_do : (formals : List (List ℕ)) (loops : List Head) (d : Head) (body : StmtTrees) (f g h i : Found) (l m n o : List ℕ) → m ≡ drop 1 l → g ≡ f
    → Passes formals (private_site d.private) [] g m h n → Passes formals (stmts_sites body) (map placed_call (all_calls_in (loops ++ d ∷ []) n body)) h n i o
    → Passes formals (stmt_sites (Do d body)) (map placed_call (calls_in loops l (Do d body))) f l i o
passes_do formals loops d body f g h i l m n o over same a b =
    let there : n ≡ drop (1 + length (private_site d.private)) l = a.over ∙ ap (drop (length (private_site d.private))) over ∙ drop-drop (length (private_site d.private)) 1 l in
    passes_as formals (stmt_sites (Do d body)) (stmt_sites (Do d body)) (map placed_call (all_calls_in (loops ++ d ∷ []) n body)) _ f i l o refl (ap (λ (ls : List ℕ). map placed_call (all_calls_in (loops ++ d ∷ []) ls body)) there)
    (passes_both formals (statement (Do d body) ∷ []) (private_site d.private ++ stmts_sites body) [] (map placed_call (all_calls_in (loops ++ d ∷ []) n body)) f g i l m o (passes_only_line formals (Do d body) f g l m over same)
    (passes_both formals (private_site d.private) (stmts_sites body) [] (map placed_call (all_calls_in (loops ++ d ∷ []) n body)) g h i m n o a b))

-- an assignment, which may be a CALL
pub passes_assignment : (formals : List (List ℕ)) (loops : List Head) (around : Around) (left right : ExprTree) (f g h : Found) (l m n : List ℕ) (line : ℕ) → around ≡ around_of loops → line ≡ next_line l → m ≡ drop 1 l → g ≡ f → n ≡ m
    → h.calls.items ≡ g.calls.items ++ call_here around line (call_of left right) → h.private ≡ g.private → Passes formals (stmt_sites (Assign left right)) (map placed_call (calls_in loops l (Assign left right))) f l h n
passes_assignment formals loops around left right f g h l m n line a at over same stays calls private =
    passes_as formals (stmt_sites (Assign left right)) (stmt_sites (Assign left right)) (call_here around line (call_of left right)) _ f h l n refl
    (ap (λ (k : ℕ). call_here around k (call_of left right)) at ∙ call_is_here loops around l (call_of left right) a)
    (passes_line formals (Assign left right) (call_here around line (call_of left right)) f g h l m n over same stays calls private)

no_private_there : (formals : List (List ℕ)) (lines : List ℕ) (d : DeclTree) → private_lines formals lines (decl_sites d) ≡ []
no_private_there formals lines (Program x) = refl
no_private_there formals lines Implicit = refl
no_private_there formals lines (Integer ds) = refl
no_private_there formals lines (Dimension ds) = refl
no_private_there formals lines (Parameter values) = refl
no_private_there formals lines (Save names) = refl
no_private_there formals lines (Remark text) = refl

-- declarations have no PRIVATE statement
no_private_declared : (formals : List (List ℕ)) (lines : List ℕ) (ds : List DeclTree) → private_lines formals lines (flat_map decl_sites ds) ≡ []
no_private_declared formals lines [] = refl
no_private_declared formals lines (d ∷ ds) =
    private_append formals lines (decl_sites d) (flat_map decl_sites ds)
    ∙ ap (λ (ns : List ℕ). ns ++ private_lines formals (drop (length (decl_sites d)) lines) (flat_map decl_sites ds)) (no_private_there formals lines d)
    ∙ no_private_declared formals (drop (length (decl_sites d)) lines) ds

-- the PRIVATE statements of a program are those of its statements
pub private_behind : (formals : List (List ℕ)) (lines : List ℕ) (ds : List DeclTree) (sites : List Site) → private_lines formals lines (flat_map decl_sites ds ++ sites) ≡ private_lines formals (drop (length (flat_map decl_sites ds)) lines) sites
private_behind formals lines ds sites =
    private_append formals lines (flat_map decl_sites ds) sites
    ∙ ap (λ (ns : List ℕ). ns ++ private_lines formals (drop (length (flat_map decl_sites ds)) lines) sites) (no_private_declared formals lines ds)

-- what is found in the statements of a unit
pub private_of_unit : (formals : List (List ℕ)) (lines here : List ℕ) (ds : List DeclTree) (sites : List Site) (before found : List ℕ) → here ≡ drop (length (flat_map decl_sites ds)) lines → before ≡ [] → found ≡ before ++ private_lines formals here sites
    → found ≡ private_lines formals lines (flat_map decl_sites ds ++ sites)
private_of_unit formals lines here ds sites before found at none f =
    f ∙ ap (λ (ns : List ℕ). ns ++ private_lines formals here sites) none ∙ ap (λ (ls : List ℕ). private_lines formals ls sites) at ∙ sym (private_behind formals lines ds sites)
