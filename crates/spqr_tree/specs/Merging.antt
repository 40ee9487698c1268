-- State of a loop: the components that are put into groups, one after the other. They are moved, so no list of them is left:
-- in all that is said here `comps` is the list as it was.
use Rattle.std.specs.Prelude.{◌≡◌, ◌≢◌, ℕ, ◌+◌, ◌<◌, ◌≤◌, ◌==◌, ◌&&◌, Bool, cond, List, [], ◌∷◌, ◌++◌, reverse, length, slice_index_or, Contains, Some, None}
use Rattle.permutations.specs.Count.{sum_below}
use Rattle.multigraph.specs.Graph.{Multigraph}
use Rattle.slab.specs.Slab.{Slab, get, Updates}
use Rattle.pair_split.specs.Split.{component_at, items_of, IsSplit}
use Rattle.pair_split.specs.declared.components.Kind.{Kind}
use Rattle.pair_split.specs.declared.components.What.TheVariants.{Link}
use Rattle.pair_split.specs.declared.components.Piece.{Piece}
use Rattle.pair_split.specs.declared.components.Comp.{Comp}
use Rattle.spqr_tree.specs.Merged.{how_many, is_outer, IsGroup, AreGroups, IsMerged, NoneAlike}
use Rattle.spqr_tree.specs.Absent.{absent}

-- the live components, each under its key, and the key of each component, live or not
pub record LiveState : Type 0 where
  pub slab : Slab Comp
  pub keys : List ℕ

-- the live components, the group of each component, the groups that are finished, and the pieces of the group in work: those
-- that were looked at and those that were not
pub record MergingState : Type 0 where
  pub live : LiveState
  pub lead : List ℕ
  pub groups : List Comp
  pub done : List Piece
  pub stack : List Piece

-- the number of the group of component c; that of no group where it is in none
abbrev pub group_of : List ℕ → ℕ → ℕ
group_of lead c = slice_index_or lead c absent

-- whether component c is in a group
abbrev pub IsLed : List ℕ → ℕ → Type 0
IsLed lead c = group_of lead c ≢ absent

-- the key of component c
abbrev pub slab_key : LiveState → ℕ → ℕ
slab_key live c = slice_index_or live.keys c 0

-- the components below n are live, each under a key of its own
pub record AreHeld (comps : List Comp) (live : LiveState) (n : ℕ) : Type 0 where
  pub places : length live.keys ≡ n
  pub differ : (x y : ℕ) → x < n → y < n → slab_key live x ≡ slab_key live y → x ≡ y
  pub held : (x : ℕ) → x < n → get live.slab (slab_key live x) ≡ Some (component_at comps x)

-- one component more is live, under a key that was free
pub record IsAdded (live next : LiveState) (comp : Comp) : Type 0 where
  pub key : ℕ
  pub free : get live.slab key ≡ None
  pub keys : next.keys ≡ live.keys ++ key ∷ []
  pub slab : Updates live.slab next.slab key (Some comp)

-- each component has a key of its own, under which it is held just where it is in no group
pub record AreLive (comps : List Comp) (lead : List ℕ) (live : LiveState) : Type 0 where
  pub places : length live.keys ≡ length lead
  pub differ : (x y : ℕ) → x < length lead → y < length lead → slab_key live x ≡ slab_key live y → x ≡ y
  pub held : (x : ℕ) → x < length lead → group_of lead x ≡ absent → get live.slab (slab_key live x) ≡ Some (component_at comps x)
  pub gone : (x : ℕ) → x < length lead → IsLed lead x → get live.slab (slab_key live x) ≡ None

-- component d was taken out of the live ones, and no other
pub record IsTakenOut (live next : LiveState) (d : ℕ) : Type 0 where
  pub keys : next.keys ≡ live.keys
  pub slab : Updates live.slab next.slab (slab_key live d) None

-- the components are split components of some graph
abbrev pub AreSplit : List Comp → Type 0
AreSplit comps = (g : Multigraph) × IsSplit g comps

-- each of the groups is one, and none could be larger
pub record AreFinished (comps : List Comp) (lead : List ℕ) (groups : List Comp) : Type 0 where
  pub each : (j : ℕ) → j < length groups → IsGroup comps (group_of lead) j (component_at groups j).kind (items_of groups j)
  pub apart : (j : ℕ) → j < length groups → NoneAlike comps (component_at groups j).kind (items_of groups j)

-- the groups are those of split components of the graph, and none could be larger
abbrev pub AreGroupsOf : Multigraph → List ℕ → List Comp → Type 0
AreGroupsOf g lead groups =
    (comps : List Comp) × IsSplit g comps × AreGroups comps (group_of lead) groups × AreFinished comps lead groups × (length lead ≡ length comps)

-- component d is of this kind, of which components are merged, and in no group
abbrev pub IsAbsorbed : List Comp → List ℕ → Kind → ℕ → Type 0
IsAbsorbed comps lead kind d = IsMerged kind × (group_of lead d ≡ absent) × ((component_at comps d).kind ≡ kind)

-- a group of this kind is in work
pub record IsMerging (comps : List Comp) (kind : Kind) (s : MergingState) : Type 0 where
  pub live : AreLive comps s.lead s.live
  pub places : length s.lead ≡ length comps
  pub few : length s.groups < absent
  pub led : (x : ℕ) → IsLed s.lead x → group_of s.lead x ≤ length s.groups
  pub finished : AreFinished comps s.lead s.groups
  pub group : IsGroup comps (group_of s.lead) (length s.groups) kind (s.done ++ reverse s.stack)
  pub settled : (piece : Piece) (d : ℕ) → Contains s.done piece → piece.what ≡ Link d → IsMerged kind → (component_at comps d).kind ≡ kind → IsLed s.lead d

-- no group is in work
pub record IsResting (comps : List Comp) (s : MergingState) : Type 0 where
  pub live : AreLive comps s.lead s.live
  pub places : length s.lead ≡ length comps
  pub led : (x : ℕ) → IsLed s.lead x → group_of s.lead x < length s.groups
  pub finished : AreFinished comps s.lead s.groups
  pub none_done : s.done ≡ []
  pub none_left : s.stack ≡ []

-- components stay in their groups
abbrev pub KeepsLed : List ℕ → List ℕ → Type 0
KeepsLed lead other = (x : ℕ) → IsLed lead x → group_of other x ≡ group_of lead x

-- the piece put back on the stack
abbrev pub with_piece : MergingState → Piece → MergingState
with_piece s piece = record { live = s.live; lead = s.lead; groups = s.groups; done = s.done; stack = s.stack ++ piece ∷ [] }

-- the piece put after those that were looked at
abbrev pub with_done : MergingState → Piece → MergingState
with_done s piece = record { live = s.live; lead = s.lead; groups = s.groups; done = s.done ++ piece ∷ []; stack = s.stack }

-- how many pieces are to be looked at at most: those on the stack and those of the components in no group
abbrev pub pieces_left : List Comp → MergingState → ℕ
pieces_left comps s = length s.stack + sum_below (length comps) (λ x. cond (group_of s.lead x == absent) (length (items_of comps x)) 0)

-- the pieces that are no links into group k were put on the stack, in any order
abbrev pub IsPushed : List Piece → List Piece → List ℕ → ℕ → List Piece → Type 0
IsPushed before after lead k pieces = (t : Piece → Bool) → how_many t after ≡ how_many t before + how_many (λ q. is_outer (group_of lead) k q.what && t q) pieces

-- component d was put into the group in work
pub record IsTaken (comps : List Comp) (s next : MergingState) (d : ℕ) : Type 0 where
  pub live : IsTakenOut s.live next.live d
  pub groups : next.groups ≡ s.groups
  pub done : next.done ≡ s.done
  pub places : length next.lead ≡ length s.lead
  pub into : group_of next.lead d ≡ length s.groups
  pub kept : (x : ℕ) → x ≢ d → group_of next.lead x ≡ group_of s.lead x
  pub pushed : IsPushed s.stack next.stack s.lead (length s.groups) (items_of comps d)

-- the group in work was begun with component c
pub record IsStarted (comps : List Comp) (s next : MergingState) (c : ℕ) : Type 0 where
  pub live : IsTakenOut s.live next.live c
  pub groups : next.groups ≡ s.groups
  pub done : next.done ≡ s.done
  pub places : length next.lead ≡ length s.lead
  pub into : group_of next.lead c ≡ length s.groups
  pub kept : (x : ℕ) → x ≢ c → group_of next.lead x ≡ group_of s.lead x
  pub stack : next.stack ≡ reverse (items_of comps c)
