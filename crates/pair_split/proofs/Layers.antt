-- The layers of a state: the finished components, then the current family.
use Rattle.std.proofs.Common.{◌≡◌, ℕ, ◌+◌, ◌<◌, ◌≤◌, ◌⊎◌, inl, inr, List, [], ◌∷◌, ◌++◌, length, map, slice_index_or, sym, ap, ◌∙◌, subst, arith, Contains}
use Rattle.std.proofs.lemmas.Bool.{cases_lt, cases_eq}
use Rattle.std.proofs.lemmas.List.{get_or-map, length-map, length-append, get_or_past, get_or_append_left}
use Rattle.std.proofs.Math.Seq.{get_or-append_seam}
use Rattle.pair_split.specs.Family.{Entry}
use Rattle.pair_split.specs.State.{Part, SplitState, part_at, own_at, part_family, layers, layer, family_at}
use Rattle.pair_split.specs.declared.components.Kind.TheVariants.{B}
use Rattle.pair_split.proofs.Elements.{contains-none}

-- a part where there is none
abbrev pub no_part : Part
no_part = record { kind = B; own = record { name = 0; first = 0; second = 0 }; entries = [] }

-- a list of lists, one for each part and one more
abbrev rows : (Part → List Entry) → List Part → List Entry → List (List Entry)
rows f parts last = map f parts ++ last ∷ []

rows-length : (f : Part → List Entry) (parts : List Part) (last : List Entry) → length (rows f parts last) ≡ length parts + 1
rows-length f parts last = length-append (map f parts) (last ∷ []) ∙ ap (λ n. n + 1) (length-map parts f)

-- the one for a part
rows-part : (f : Part → List Entry) (parts : List Part) (last : List Entry) (k : ℕ) → k < length parts → slice_index_or (rows f parts last) k [] ≡ f (slice_index_or parts k no_part)
rows-part f parts last k l = get_or_append_left (map f parts) (last ∷ []) [] k (omega (arith, l, length-map parts f)) ∙ get_or-map f parts k no_part [] l

-- the last one
rows-last : (f : Part → List Entry) (parts : List Part) (last : List Entry) → slice_index_or (rows f parts last) (length parts) [] ≡ last
rows-last f parts last = ap (λ n. slice_index_or (rows f parts last) n []) (sym (length-map parts f)) ∙ get_or-append_seam (map f parts) last [] []

-- the layer of a finished component
pub layer-part : (state : SplitState) (k : ℕ) → k < length state.parts → layer state k ≡ (part_at state k).entries
layer-part state k l = rows-part (λ part. part.entries) state.parts state.current k l

-- the last layer is the current family
pub layer-current : (state : SplitState) → layer state (length state.parts) ≡ state.current
layer-current state = rows-last (λ part. part.entries) state.parts state.current

-- there are no more layers
pub layer-past : (state : SplitState) (k : ℕ) → length state.parts < k → layer state k ≡ []
layer-past state k l = get_or_past (layers state) k [] (omega (arith, l, rows-length (λ part. part.entries) state.parts state.current))

-- a layer with an entry is one of the finished components or the current family
pub layer-in : (state : SplitState) (k : ℕ) (entry : Entry) → Contains (layer state k) entry → k ≤ length state.parts
layer-in state k entry c = elim (cases_lt (length state.parts) k) [
  | inl l ↦ absurd (contains-none entry (subst (λ (l : List Entry). Contains l entry) (layer-past state k l) c))
  | inr l ↦ l
]

-- an entry of the current family is in the last layer
pub current-layer : (state : SplitState) (entry : Entry) → Contains state.current entry → Contains (layer state (length state.parts)) entry
current-layer state entry c = subst (λ (l : List Entry). Contains l entry) (sym (layer-current state)) c

-- an entry of a layer is in the current family, or in a finished component
pub layer-cases : (state : SplitState) (k : ℕ) (entry : Entry) → Contains (layer state k) entry → (k < length state.parts) ⊎ ((k ≡ length state.parts) × Contains state.current entry)
layer-cases state k entry c = elim (cases_eq k (length state.parts)) [
  | inl e ↦ inr (e, subst (λ (l : List Entry). Contains l entry) (ap (layer state) e ∙ layer-current state) c)
  | inr n ↦ inl (omega (arith, n, layer-in state k entry c))
]

-- the family of a finished component
pub family-part : (state : SplitState) (k : ℕ) → k < length state.parts → family_at state k ≡ own_at state k ∷ layer state k
family-part state k l = rows-part part_family state.parts state.current k l ∙ ap (λ (l : List Entry). own_at state k ∷ l) (sym (layer-part state k l))

-- the family of the last component is the current family
pub family-current : (state : SplitState) → family_at state (length state.parts) ≡ state.current
family-current state = rows-last part_family state.parts state.current
