-- Steps of the loops over the edges: one edge more.
use Rattle.std.proofs.Common.{◌≡◌, ℕ, ◌+◌, ◌<◌, ◌⊎◌, inl, inr, Bool, true, false, ◌&&◌, ◌||◌, ◌==◌, List, [], ◌∷◌, ◌++◌, length, take, slice_index_or, slice_set, sym, ap, ◌∙◌, subst, arith}
use Rattle.std.proofs.lemmas.Bool.{cases_Bool, cases_eq, eq-eqb, ne_eqb}
use Rattle.std.proofs.lemmas.List.{get_or-set_same, get_or-set_other, map-append, take_more}
use Rattle.pair_split.specs.Family.{Entry}
use Rattle.multigraph.specs.Marks.{is_marked}
use Rattle.pair_split.specs.Bridges.{entry_of, family_of, side_of}
use Rattle.pair_split.specs.declared.family.NamedEdge.{NamedEdge}

-- the family of one edge more
pub family-more : (edges : List NamedEdge) (i : ℕ) (d : NamedEdge) → i < length edges → family_of (take (i + 1) edges) ≡ family_of (take i edges) ++ entry_of (slice_index_or edges i d) ∷ []
family-more edges i d l = ap family_of (take_more edges i d l) ∙ map-append entry_of (take i edges) (slice_index_or edges i d ∷ [])

-- a side of one entry more
side_of-more : (entries : List Entry) (e : Entry) (test : Entry → Bool) (n : ℕ) → side_of (entries ++ e ∷ []) test n ≡ (side_of entries test n || ((e.name == n) && test e))
side_of-more [] e test n = grind (arith, cases_Bool (e.name == n), cases_Bool (test e))
side_of-more (f ∷ entries) e test n = grind (arith, side_of-more entries e test n, cases_Bool (f.name == n), cases_Bool (test f), cases_Bool (side_of entries test n))

-- an edge in place of none
abbrev pub nothing : NamedEdge
nothing = record { name = 0; first = 0; second = 0 }

-- an edge that fails is not marked
pub mark-skip : (edges : List NamedEdge) (i : ℕ) (test : Entry → Bool) (marks : List Bool) → i < length edges → ((n : ℕ) → is_marked marks n ≡ side_of (family_of (take i edges)) test n)
    → test (entry_of (slice_index_or edges i nothing)) ≡ false → (n : ℕ) → is_marked marks n ≡ side_of (family_of (take (i + 1) edges)) test n
mark-skip edges i test marks l h f n =
    h n ∙ sym (ap (λ (k : List Entry). side_of k test n) (family-more edges i nothing l)
    ∙ (side_of-more (family_of (take i edges)) (entry_of (slice_index_or edges i nothing)) test n ∙ rw f (none (side_of (family_of (take i edges)) test n) ((slice_index_or edges i nothing).name == n))))
  where
    none : (x y : Bool) → (x || (y && false)) ≡ x
    none x y = grind (arith, cases_Bool x, cases_Bool y)

-- an edge that passes is marked
pub mark-step : (edges : List NamedEdge) (i : ℕ) (test : Entry → Bool) (marks : List Bool) → i < length edges → ((n : ℕ) → is_marked marks n ≡ side_of (family_of (take i edges)) test n)
    → test (entry_of (slice_index_or edges i nothing)) ≡ true → (slice_index_or edges i nothing).name < length marks → (n : ℕ) → is_marked (slice_set marks (slice_index_or edges i nothing).name true) n ≡ side_of (family_of (take (i + 1) edges)) test n
mark-step edges i test marks l h t m n =
    one (cases_eq name n)
    ∙ sym (ap (λ (k : List Entry). side_of k test n) (family-more edges i nothing l) ∙ side_of-more (family_of (take i edges)) (entry_of (slice_index_or edges i nothing)) test n)
  where
    name : ℕ
    name = (slice_index_or edges i nothing).name

    one : (name ≡ n) ⊎ (name ≡ n → ⊥) → is_marked (slice_set marks (slice_index_or edges i nothing).name true) n ≡ (side_of (family_of (take i edges)) test n || (((slice_index_or edges i nothing).name == n) && test (entry_of (slice_index_or edges i nothing))))
    one (inl e) = subst (λ (k : ℕ). is_marked (slice_set marks (slice_index_or edges i nothing).name true) k ≡ true) e (get_or-set_same marks name true false m)
        ∙ sym (rw (t, eq-eqb (slice_index_or edges i nothing).name n e) (grind (arith, cases_Bool (side_of (family_of (take i edges)) test n))))
    one (inr k) = get_or-set_other marks name n true false (λ e. k (sym e))
        ∙ (h n ∙ sym (rw (t, ne_eqb (slice_index_or edges i nothing).name n k) (grind (arith, cases_Bool (side_of (family_of (take i edges)) test n)))))
