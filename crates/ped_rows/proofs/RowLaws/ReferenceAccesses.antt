-- The access of a reference in iterations of the DO loops round it, in a run that does its statement there.
use Rattle.std.proofs.Common.{◌≡◌, ℕ, ◌<◌, List, ◌∷◌, sym, ap, subst, ◌∙◌, arith}
use Rattle.ped_laws.specs.ped_flow.specs.ped_tree.specs.Tree.{ProgramTree}
use Rattle.ped_laws.specs.ped_flow.specs.ped_tree.specs.Nests.{indices_of}
use Rattle.ped_laws.specs.ped_flow.specs.ped_tree.specs.Accesses.{own_accesses, constant_names}
use Rattle.ped_laws.specs.ped_graph.specs.ped_symbols.specs.NameRefusals.{IsValid}
use Rattle.ped_laws.specs.ped_graph.specs.ped_refs.specs.References.{Reference, references, outermost}
use Rattle.ped_laws.specs.ped_eval.specs.ped_store.specs.Stores.{Store}
use Rattle.ped_laws.specs.ped_eval.specs.ped_store.specs.Acts.{Turn, Place, Act}
use Rattle.ped_laws.specs.ped_eval.specs.ped_store.specs.Races.{Access, accesses}
use Rattle.ped_laws.specs.Acts.Orders.{IsIn}
use Rattle.ped_laws.proofs.ActLaws.Conflicting.{accesses_in}
use Rattle.ped_laws.specs.ped_eval.specs.Scopes.{Scope}
use Rattle.ped_laws.specs.ped_eval.specs.Outcomes.{run_of}
use Rattle.ped_laws.specs.Conflicts.Making.{IsMade, AreMade}
use Rattle.ped_laws.proofs.ConflictLaws.Scoping.{act_of_access}
use Rattle.ped_rows.proofs.ComingLaws.NestedReferences.{of_statement}
use Rattle.ped_rows.proofs.ComingLaws.Reaching.{Comes}
use Rattle.ped_rows.proofs.MeetingLaws.OneReference.{one_reference}
use Rattle.ped_rows.proofs.TouchingLaws.Touched.{statement_touches}

accesses_among : (acts others : List Act) → ((a : Act) → IsIn a acts → IsIn a others) → (x : Access) → IsIn x (accesses acts) → IsIn x (accesses others)
accesses_among acts others more x i = let a = act_of_access x acts i in accesses_in others a.0 x (more a.0 a.1) a.2

module _ (t : ProgramTree) (valid : IsValid t) (data_bytes : List ℕ) where
  -- the run has an access by the reference in these iterations
  pub record HasAccess (r : Reference) (turns : List Turn) : Type 0 where
    pub access : Access
    pub among : IsIn access (accesses (run_of t data_bytes).acts)
    pub place : access.place ≡ record { statement = r.statement; turns = turns }
    pub reference : access.reference ≡ r.number
    pub positive : 0 < access.reference

  pub access_of : (r : Reference) (turns : List Turn) → Comes t r turns (run_of t data_bytes).acts → HasAccess r turns
  access_of r turns h =
      let x = statement_touches t valid h.setting r.nest h.scope h.around r.statement h.statement h.part h.before h.after h.goes r h.own in
      let least = (of_statement r.statement 1 r.nest (own_accesses (constant_names t.decls) (indices_of r.nest) h.statement) r h.own).least in
      let number = x.3 in
      record {
        access = x.0;
        among = accesses_among _ (run_of t data_bytes).acts h.inside x.0 x.1;
        place = x.2 ∙ (λ i. record { statement = r.statement; turns = h.turns i });
        reference = x.3;
        positive = omega (arith, least, number);
      }

  -- that reference makes it
  pub made_of : (first : ℕ → Store) → AreMade t data_bytes first → (r : Reference) → IsIn r (references t) → (turn : Turn) (inner : List Turn) → (h : HasAccess r (turn ∷ inner)) → (scope : Scope) × (u : Store) × IsMade t (first (outermost r)) h.access r scope u
  made_of first made r i turn inner h =
      let m = made h.access turn inner h.among h.positive (ap (λ (z : Place). z.turns) h.place) in
      let same : m.0 ≡ r = one_reference t m.0 r m.3.listed i (sym m.3.statement ∙ ap (λ (z : Place). z.statement) h.place) (sym m.3.number ∙ h.reference) in
      (m.1, m.2, subst (λ (q : Reference). IsMade t (first (outermost q)) h.access q m.1 m.2) same m.3)
