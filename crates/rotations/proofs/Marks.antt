-- The edges of a list that were met so far, by their marks.
use Rattle.std.proofs.Common.{◌≡◌, ◌≢◌, ℕ, ◌+◌, ◌<◌, ◌≤◌, true, false, eqb, ◌⊎◌, List, [], ◌∷◌, ◌++◌, length, get_or, set, take, drop, refl, sym, ap, ◌∙◌, subst, inl, inr, arith}
use Rattle.std.specs.List.{All}
use Rattle.std.specs.List.Sorted.{IsPermutation}
use Rattle.std.proofs.lemmas.List.{length-set, get_or-set_same, get_or-set_other, take_more, take-append-drop, drop_more, take_all}
use Rattle.std.proofs.lemmas.List.Elements.{All-set}
use Rattle.std.proofs.lemmas.List.Sorted.{length_permutation}
use Rattle.std.proofs.lemmas.Bool.{cases_eq, cases_Bool, eq-eqb, ne_eqb, both_ways, true≢false}
use Rattle.permutations.specs.Members.{is_member, is_distinct}
use Rattle.permutations.proofs.Members.{member-head, member-append_left, member-append_right, member-append_cases, member-cases, no_member-append, no_member-cons, distinct-append, distinct-append_apart}
use Rattle.permutations.proofs.Arrangements.{member-at}
use Rattle.multigraph.specs.Graph.{Multigraph, edge_count, incident_edges}
use Rattle.rotations.proofs.Membership.{incident-distinct, member-edge}
use Rattle.rotations.proofs.Arrangements.{permutation-member_back, permutation-distinct, permutation-from_members}

-- the edges of a front of the list of v: each is at v, none is there twice, and they are the ones that are marked v + 1
pub record AreMet (g : Multigraph) (v : ℕ) (front seen : List ℕ) : Type 0 where
  pub marked : (e : ℕ) → eqb (get_or seen e 0) (v + 1) ≡ is_member e front
  pub distinct : is_distinct front ≡ true
  pub at_vertex : (e : ℕ) → is_member e front ≡ true → is_member e (incident_edges g v) ≡ true
  pub long : length seen ≡ edge_count g
  pub small : All (λ s. s ≤ v + 1) seen

-- an edge that is not marked is not among those met
met-new : (g : Multigraph) (v e : ℕ) (front seen : List ℕ) → AreMet g v front seen → get_or seen e 0 ≢ v + 1 → is_member e front ≡ false
met-new g v e front seen r new = sym (r.marked e) ∙ ne_eqb (get_or seen e 0) (v + 1) new

-- one more is met and marked
pub met-more : (g : Multigraph) (v e : ℕ) (front seen : List ℕ) → AreMet g v front seen → is_member e (incident_edges g v) ≡ true → get_or seen e 0 ≢ v + 1 → AreMet g v (front ++ e ∷ []) (set seen e (v + 1))
met-more g v e front seen r at_v new = record {
  marked = λ x. elim (cases_eq x e) [
    | inl same ↦ subst (λ (y : ℕ). eqb (get_or (set seen e (v + 1)) y 0) (v + 1) ≡ is_member y (front ++ e ∷ [])) (sym same)
        (eq-eqb (get_or (set seen e (v + 1)) e 0) (v + 1) (get_or-set_same seen e (v + 1) 0 inside) ∙ sym (member-append_right e front (e ∷ []) (member-head e [])))
    | inr n ↦ ap (λ (y : ℕ). eqb y (v + 1)) (get_or-set_other seen e x (v + 1) 0 n) ∙ (r.marked x ∙ sym (elsewhere x n))
  ];
  distinct = distinct-append front (e ∷ []) r.distinct refl (λ z m. no_member-cons z e [] (λ same. both_ways (is_member e front) (met-new g v e front seen r new) (subst (λ (y : ℕ). is_member y front ≡ true) (sym same) m)) refl);
  at_vertex = λ x m. elim (member-append_cases x front (e ∷ []) m) [
    | inl a ↦ r.at_vertex x a
    | inr b ↦ elim (member-cases x e [] b) [
      | inl same ↦ subst (λ (y : ℕ). is_member y (incident_edges g v) ≡ true) same at_v
      | inr none ↦ absurd (true≢false (sym none))
    ]
  ];
  long = length-set seen e (v + 1) ∙ r.long;
  small = All-set (λ (s : ℕ). s ≤ v + 1) seen e (v + 1) (omega arith) r.small;
}
  where
    inside : e < length seen
    inside = omega (arith, member-edge g v e at_v, r.long)

    elsewhere : (x : ℕ) → x ≢ e → is_member x (front ++ e ∷ []) ≡ is_member x front
    elsewhere x n = elim (cases_Bool (is_member x front)) [
      | inl m ↦ member-append_left x front (e ∷ []) m ∙ sym m
      | inr m ↦ no_member-append x front (e ∷ []) m (no_member-cons x e [] (λ same. n (sym same)) refl) ∙ sym m
    ]

-- one more, where the front is that of the list so far
pub met-step : (g : Multigraph) (v i : ℕ) (list seen new : List ℕ) → i < length list → AreMet g v (take i list) seen → is_member (get_or list i 0) (incident_edges g v) ≡ true → get_or seen (get_or list i 0) 0 ≢ v + 1 → new ≡ set seen (get_or list i 0) (v + 1) → AreMet g v (take (i + 1) list) new
met-step g v i list seen new l r at_v fresh is =
    subst (λ (s : List ℕ). AreMet g v (take (i + 1) list) s) (sym is)
    (subst (λ (f : List ℕ). AreMet g v f (set seen (get_or list i 0) (v + 1))) (sym (take_more list i 0 l)) (met-more g v (get_or list i 0) (take i list) seen r at_v fresh))

-- all are met, and they are as many as the edges at v
pub met-all : (g : Multigraph) (v i : ℕ) (list seen : List ℕ) → length list ≤ i → AreMet g v (take i list) seen → length list ≡ length (incident_edges g v) → IsPermutation (incident_edges g v) list
met-all g v i list seen l r long =
    let whole : AreMet g v list seen = subst (λ (f : List ℕ). AreMet g v f seen) (take_all i list l) r in
    permutation-from_members list (incident_edges g v) whole.distinct whole.at_vertex long

-- a list of another length is no arrangement
pub no_arrangement-long : (g : Multigraph) (v : ℕ) (list : List ℕ) → (length list ≡ length (incident_edges g v) → ⊥) → IsPermutation (incident_edges g v) list → ⊥
no_arrangement-long g v list n p = n (length_permutation (incident_edges g v) list p)

-- a list with a number that is no edge at v is no arrangement
pub no_arrangement-stranger : (g : Multigraph) (v i : ℕ) (list : List ℕ) → i < length list → is_member (get_or list i 0) (incident_edges g v) ≡ false → IsPermutation (incident_edges g v) list → ⊥
no_arrangement-stranger g v i list l n p =
    both_ways (is_member (get_or list i 0) (incident_edges g v)) n (permutation-member_back (incident_edges g v) list (get_or list i 0) p (member-at list i 0 l))

-- a list with an edge that stood before is no arrangement
pub no_arrangement-twice : (g : Multigraph) (v i : ℕ) (list : List ℕ) → i < length list → is_member (get_or list i 0) (take i list) ≡ true → IsPermutation (incident_edges g v) list → ⊥
no_arrangement-twice g v i list l m p =
    let cut : take i list ++ get_or list i 0 ∷ drop (i + 1) list ≡ list = ap (λ (r : List ℕ). take i list ++ r) (sym (drop_more list i 0 l)) ∙ take-append-drop i list in
    let once : is_distinct (take i list ++ get_or list i 0 ∷ drop (i + 1) list) ≡ true =
    subst (λ (r : List ℕ). is_distinct r ≡ true) (sym cut) (permutation-distinct (incident_edges g v) list p (incident-distinct g v)) in
    both_ways (is_member (get_or list i 0) (get_or list i 0 ∷ drop (i + 1) list))
    (distinct-append_apart (take i list) (get_or list i 0 ∷ drop (i + 1) list) once (get_or list i 0) m)
    (member-head (get_or list i 0) (drop (i + 1) list))

-- a list with an edge that is marked is no arrangement, nor is one with a stranger
pub no_arrangement-refused : (g : Multigraph) (v i : ℕ) (list seen : List ℕ) → i < length list → AreMet g v (take i list) seen → (is_member (get_or list i 0) (incident_edges g v) ≡ false) ⊎ (get_or seen (get_or list i 0) 0 ≡ v + 1) → IsPermutation (incident_edges g v) list → ⊥
no_arrangement-refused g v i list seen l r why p = elim why [
  | inl stranger ↦ no_arrangement-stranger g v i list l stranger p
  | inr marked ↦ no_arrangement-twice g v i list l (sym (r.marked (get_or list i 0)) ∙ eq-eqb (get_or seen (get_or list i 0) 0) (v + 1) marked) p
]
