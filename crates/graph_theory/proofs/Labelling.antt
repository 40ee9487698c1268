-- Labels of what links connect when some numbers are removed, link by link.
use Rattle.std.proofs.Common.{◌≡◌, ◌≢◌, ℕ, ◌<◌, ◌⊎◌, inl, inr, true, false, List, [], ◌∷◌, ◌++◌, length, filter, get_or, slice_index_or, refl, sym, ap, ◌∙◌, subst, Contains}
use Rattle.std.proofs.lemmas.Bool.{cases_eq, both_ways, eq-eqb, ne_eqb}
use Rattle.std.proofs.lemmas.List.{get_or_default}
use Rattle.std.proofs.lemmas.List.Elements.{All-filter, filter_passes, filter-append, Contains-get_or, Contains-append_left, Contains-push, Contains-push_cases}
use Rattle.permutations.specs.Relation.{connected}
use Rattle.permutations.proofs.Relation.{connected-symmetric, connected-transitive, connected-link, connected-subset, connected-value}
use Rattle.graph_theory.specs.Labels.{label_at, renamed, IsLabelling}
use Rattle.graph_theory.specs.Triconnected.{avoids}
use Rattle.graph_theory.proofs.Removed.{contains-filter}

-- a label within the list
pub label-within : (labels : List ℕ) (x d : ℕ) → x < length labels → label_at labels x ≡ slice_index_or labels x d
label-within labels x d l = get_or_default labels x x d l

-- a label that is replaced by one below n stays below n
pub renamed-below : (n from to x : ℕ) → to < n → x < n → renamed from to x < n
renamed-below n from to x l m = elim (cases_eq x from) [ inl e ↦ rw (eq-eqb x from e) l | inr k ↦ rw (ne_eqb x from k) m ]

-- what a label that is replaced becomes
renamed-from : (from to x : ℕ) → x ≡ from → renamed from to x ≡ to
renamed-from from to x h = rw (eq-eqb x from h) refl

-- other labels stay
renamed-other : (from to x : ℕ) → x ≢ from → renamed from to x ≡ x
renamed-other from to x h = rw (ne_eqb x from h) refl

-- the label that replaces stays
renamed-to : (from to : ℕ) → renamed from to to ≡ to
renamed-to from to = elim (cases_eq to from) [ inl i ↦ renamed-from from to to i | inr n ↦ renamed-other from to to n ]

-- where a label is replaced by itself, all stay
pub renamed-same : (from to x : ℕ) → from ≡ to → renamed from to x ≡ x
renamed-same from to x h = elim (cases_eq x from) [ inl e ↦ renamed-from from to x e ∙ sym (e ∙ h) | inr n ↦ renamed-other from to x n ]

-- what links connect, they connect with one link more
connected-push : (removed : List ℕ) (links : List (ℕ × ℕ)) (link : ℕ × ℕ) (u v : ℕ) → connected (filter (avoids removed) links) u v ≡ true → connected (filter (avoids removed) (links ++ link ∷ [])) u v ≡ true
connected-push removed links link u v c =
    subst (λ (l : List (ℕ × ℕ)). connected l u v ≡ true) (sym (filter-append (avoids removed) links (link ∷ [])))
    (connected-subset kept (kept ++ more) (λ k d l. connected-link (kept ++ more) (get_or kept k d).0 (get_or kept k d).1 (Contains-append_left kept more (get_or kept k d) (Contains-get_or kept k d l))) u v c)
  where
    kept : List (ℕ × ℕ)
    kept = filter (avoids removed) links

    more : List (ℕ × ℕ)
    more = filter (avoids removed) (link ∷ [])

-- a link with an end that is removed changes nothing
pub labelling-skip : (links : List (ℕ × ℕ)) (link : ℕ × ℕ) (removed : List ℕ) (label : ℕ → ℕ) → avoids removed link ≡ false → IsLabelling links removed label → IsLabelling (links ++ link ∷ []) removed label
labelling-skip links link removed label n s = record {
  agree = λ l c a. elim (Contains-push_cases links link l c) [
    | inl d ↦ s.agree l d a
    | inr i ↦ absurd (both_ways (avoids removed link) n (subst (λ (z : ℕ × ℕ). avoids removed z ≡ true) (sym i) a))
  ];
  only = λ u v e. connected-push removed links link u v (s.only u v e);
  own = s.own;
}

-- a link with no end removed makes the labels of its two ends one
pub labelling-merge : (links : List (ℕ × ℕ)) (link : ℕ × ℕ) (removed : List ℕ) (label new : ℕ → ℕ) → avoids removed link ≡ true
    → ((x : ℕ) → new x ≡ renamed (label link.0) (label link.1) (label x)) → IsLabelling links removed label → IsLabelling (links ++ link ∷ []) removed new
labelling-merge links link removed label new a is s = record { agree = agree; only = only; own = own }
  where
    agree : (l : ℕ × ℕ) → Contains (links ++ link ∷ []) l → avoids removed l ≡ true → new l.0 ≡ new l.1
    agree l c b = elim (Contains-push_cases links link l c) [
      | inl d ↦ is l.0 ∙ (ap (renamed (label link.0) (label link.1)) (s.agree l d b) ∙ sym (is l.1))
      | inr i ↦ subst (λ (z : ℕ × ℕ). new z.0 ≡ new z.1) i
          (is link.0 ∙ (renamed-from (label link.0) (label link.1) (label link.0) refl ∙ (sym (renamed-to (label link.0) (label link.1)) ∙ sym (is link.1))))
    ]

    all : List (ℕ × ℕ)
    all = filter (avoids removed) (links ++ link ∷ [])

    both : connected all link.0 link.1 ≡ true
    both =
        let c : Contains (links ++ link ∷ []) link = Contains-push links link in
        connected-link all link.0 link.1 (subst (λ (z : ℕ × ℕ). Contains all z) c.2 (contains-filter (avoids removed) (links ++ link ∷ []) c.0 link c.1 (subst (λ (z : ℕ × ℕ). avoids removed z ≡ true) (sym c.2) a)))

    only : (u v : ℕ) → new u ≡ new v → connected all u v ≡ true
    only u v e = go (cases_eq (label u) (label link.0)) (cases_eq (label v) (label link.0))
      where
        old : (z w : ℕ) → label z ≡ label w → connected all z w ≡ true
        old z w i = connected-push removed links link z w (s.only z w i)

        same : renamed (label link.0) (label link.1) (label u) ≡ renamed (label link.0) (label link.1) (label v)
        same = sym (is u) ∙ (e ∙ is v)

        across : (z : ℕ) → label z ≡ label link.0 → connected all z link.1 ≡ true
        across z i = connected-transitive all z link.0 link.1 (old z link.0 i) both

        go : (label u ≡ label link.0) ⊎ (label u ≡ label link.0 → ⊥) → (label v ≡ label link.0) ⊎ (label v ≡ label link.0 → ⊥) → connected all u v ≡ true
        go (inl i) (inl j) = old u v (i ∙ sym j)
        go (inr i) (inr j) = old u v (sym (renamed-other (label link.0) (label link.1) (label u) i) ∙ (same ∙ renamed-other (label link.0) (label link.1) (label v) j))
        go (inl i) (inr j) = connected-transitive all u link.1 v (across u i)
            (old link.1 v (sym (renamed-from (label link.0) (label link.1) (label u) i) ∙ (same ∙ renamed-other (label link.0) (label link.1) (label v) j)))
        go (inr i) (inl j) = connected-symmetric all v u (connected-transitive all v link.1 u (across v j)
            (old link.1 u (sym (renamed-from (label link.0) (label link.1) (label v) j) ∙ (sym same ∙ renamed-other (label link.0) (label link.1) (label u) i))))

    own : (x : ℕ) → new (new x) ≡ new x
    own x = elim (cases_eq (label x) (label link.0)) [
      | inl u ↦
          let r : new x ≡ label link.1 = is x ∙ renamed-from (label link.0) (label link.1) (label x) u in
          ap new r ∙ (is (label link.1) ∙ (ap (renamed (label link.0) (label link.1)) (s.own link.1) ∙ (renamed-to (label link.0) (label link.1) ∙ sym r)))
      | inr u ↦
          let r : new x ≡ label x = is x ∙ renamed-other (label link.0) (label link.1) (label x) u in
          ap new r ∙ (is (label x) ∙ (ap (renamed (label link.0) (label link.1)) (s.own x) ∙ sym (is x)))
    ]

-- what is connected has one label
pub labelling-value : (links : List (ℕ × ℕ)) (removed : List ℕ) (label : ℕ → ℕ) → IsLabelling links removed label → (u v : ℕ) → connected (filter (avoids removed) links) u v ≡ true → label u ≡ label v
labelling-value links removed label s u v c = connected-value (filter (avoids removed) links) label
    (λ k d l. All-filter (avoids removed) (λ (link : ℕ × ℕ). avoids removed link ≡ true → label link.0 ≡ label link.1) links
    (λ e f m. s.agree (get_or links e f) (Contains-get_or links e f m))
    k d l (filter_passes (avoids removed) links k d l))
    u v c
