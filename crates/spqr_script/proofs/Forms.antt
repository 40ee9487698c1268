-- Reading the arguments of commands gives what the tokens spell, and all that they spell: one form of arguments after another.
use Rattle.std.proofs.Common.{◌≡◌, ℕ, ◌<◌, ◌≤◌, true, not, ltb, List, [], ◌∷◌, length, Option, Some, None, refl, sym, ap, subst, ◌∙◌, inl, inr, ◌⊎◌, codes, bytes_eq, arith}
use Rattle.std.specs.Option.{option_map, option_and_then}
use Rattle.std.proofs.lemmas.Option.{same_Some, none-some}
use Rattle.std.proofs.lemmas.Slice.Zip.{AllZip-long}
use Rattle.std.proofs.lemmas.Bool.{cases_Bool, and_parts, cond-true}
use Rattle.std.proofs.lemmas.Slice.Eq.{bytes_eq-Decides}
use Rattle.spqr_script.specs.Number.{SpellsNumber, number_below, index_limit, rank_limit, max_listed}
use Rattle.spqr_script.specs.Script.{SpellsIndex, SpellsIndices, SpellsRotation, SpellsRank, SpellsBlockThen, SpellsWordThen}
use Rattle.spqr_script.specs.Reading.{rotation_of, alone, number_then, index_then, keys_of, can_list, list_of, with_rank, with_rotation, convert_of}
use Rattle.spqr_script.specs.declared.command.Command.{Command}
use Rattle.spqr_script.specs.declared.command.Command.TheVariants.{ConvertRank, ConvertTo}
use Rattle.spqr_script.proofs.Options.{cond_some_of, map_some}
use Rattle.spqr_script.proofs.Entries.{number_spelled, number_read, indices_spelled, indices_read, rotation_spelled, rotation_read}

-- ---- nothing

pub alone_spelled : (command : Command) (tokens : List (List ℕ)) (c : Command) → alone command tokens ≡ Some c → (tokens ≡ []) × (command ≡ c)
alone_spelled command [] c e = (refl, same_Some command c e)
alone_spelled command (token ∷ tokens) c e = absurd (none-some c e)

pub alone_read : (command : Command) (tokens : List (List ℕ)) → tokens ≡ [] → alone command tokens ≡ Some command
alone_read command tokens s = ap (λ (ts : List (List ℕ)). alone command ts) s

-- ---- a number, and something behind it

-- a command that was read with a number, which came first
pub record IsReadBehind (limit : ℕ) (further : ℕ → List (List ℕ) → Option Command) (tokens : List (List ℕ)) (c : Command) : Type 0 where
  pub number : ℕ
  pub token : List ℕ
  pub others : List (List ℕ)
  pub cut : tokens ≡ token ∷ others
  pub spelled : SpellsNumber limit token number
  pub more : further number others ≡ Some c

pub number_first : (limit : ℕ) (further : ℕ → List (List ℕ) → Option Command) (tokens : List (List ℕ)) (c : Command) → number_then limit further tokens ≡ Some c → IsReadBehind limit further tokens c
number_first limit further [] c e = absurd (none-some c e)
number_first limit further (token ∷ tokens) c e = go (number_below limit token) refl e
  where
    go : (o : Option ℕ) → number_below limit token ≡ o → option_and_then (λ (first : ℕ × List (List ℕ)). further first.0 first.1) (option_map (λ n. (n, tokens)) o) ≡ Some c → IsReadBehind limit further (token ∷ tokens) c
    go None is h = absurd (none-some c h)
    go (Some n) is h = record { number = n; token = token; others = tokens; cut = refl; spelled = number_spelled limit token n is; more = h }

pub number_read_first : (limit : ℕ) (further : ℕ → List (List ℕ) → Option Command) (token : List ℕ) (tokens : List (List ℕ)) (n : ℕ) → SpellsNumber limit token n → number_then limit further (token ∷ tokens) ≡ further n tokens
number_read_first limit further token tokens n s =
    ap (λ (o : Option ℕ). option_and_then (λ (first : ℕ × List (List ℕ)). further first.0 first.1) (option_map (λ n. (n, tokens)) o)) (number_read limit token n s)

-- ---- a block

pub block_spelled : (make : ℕ → Command) (tokens : List (List ℕ)) (c : Command) → index_then (λ b. alone (make b)) tokens ≡ Some c → (b : ℕ) × (make b ≡ c) × SpellsIndices tokens (b ∷ [])
block_spelled make tokens c e =
    let p = number_first index_limit (λ b. alone (make b)) tokens c e in
    let q = alone_spelled (make p.number) p.others c p.more in
    (p.number, q.1, subst (λ (ts : List (List ℕ)). SpellsIndices ts (p.number ∷ [])) (sym p.cut) (p.spelled, subst (λ (ts : List (List ℕ)). SpellsIndices ts []) (sym q.0) tt))

pub block_read : (make : ℕ → Command) (tokens : List (List ℕ)) (b : ℕ) → SpellsIndices tokens (b ∷ []) → index_then (λ b. alone (make b)) tokens ≡ Some (make b)
block_read make [] b s = absurd s
block_read make (token ∷ []) b s = number_read_first index_limit (λ b. alone (make b)) token [] b s.0
block_read make (token ∷ other ∷ tokens) b s = absurd s.1

-- ---- a block and a node

pub node_spelled : (make : ℕ → ℕ → Command) (tokens : List (List ℕ)) (c : Command) → index_then (λ b. index_then (λ k. alone (make b k))) tokens ≡ Some c
    → (b k : ℕ) × (make b k ≡ c) × SpellsIndices tokens (b ∷ k ∷ [])
node_spelled make tokens c e =
    let p = number_first index_limit (λ b. index_then (λ k. alone (make b k))) tokens c e in
    let q = block_spelled (make p.number) p.others c p.more in
    (p.number, q.0, q.1, subst (λ (ts : List (List ℕ)). SpellsIndices ts (p.number ∷ q.0 ∷ [])) (sym p.cut) (p.spelled, q.2))

pub node_read : (make : ℕ → ℕ → Command) (tokens : List (List ℕ)) (b k : ℕ) → SpellsIndices tokens (b ∷ k ∷ []) → index_then (λ b. index_then (λ k. alone (make b k))) tokens ≡ Some (make b k)
node_read make [] b k s = absurd s
node_read make (token ∷ tokens) b k s = number_read_first index_limit (λ b. index_then (λ k. alone (make b k))) token tokens b s.0 ∙ block_read (make b) tokens k s.1

-- ---- a number, and one or more behind it

some_keys : (tokens : List (List ℕ)) (keys : List ℕ) → keys_of tokens ≡ Some keys → SpellsIndices tokens keys × (0 < length keys)
some_keys [] keys e = absurd (none-some keys e)
some_keys (token ∷ tokens) keys e =
    let s = indices_spelled (token ∷ tokens) keys e in
    (s, omega (arith, AllZip-long SpellsIndex (token ∷ tokens) keys s))

pub numbers_spelled : (make : ℕ → List ℕ → Command) (tokens : List (List ℕ)) (c : Command) → index_then (λ v others. option_map (λ ns. make v ns) (keys_of others)) tokens ≡ Some c
    → (v : ℕ) × (ns : List ℕ) × (make v ns ≡ c) × (SpellsIndices tokens (v ∷ ns) × (0 < length ns))
numbers_spelled make tokens c e =
    let p = number_first index_limit (λ v others. option_map (λ ns. make v ns) (keys_of others)) tokens c e in
    let q = map_some (λ ns. make p.number ns) (keys_of p.others) c p.more in
    let s = some_keys p.others q.0 q.1 in
    (p.number, q.0, q.2, (subst (λ (ts : List (List ℕ)). SpellsIndices ts (p.number ∷ q.0)) (sym p.cut) (p.spelled, s.0), s.1))

keys_there : (tokens : List (List ℕ)) (keys : List ℕ) → SpellsIndices tokens keys → 0 < length keys → keys_of tokens ≡ Some keys
keys_there [] [] s some = absurd (omega arith)
keys_there [] (key ∷ keys) s some = absurd s
keys_there (token ∷ tokens) keys s some = indices_read (token ∷ tokens) keys s

pub numbers_read : (make : ℕ → List ℕ → Command) (tokens : List (List ℕ)) (v : ℕ) (ns : List ℕ) → SpellsIndices tokens (v ∷ ns) × (0 < length ns)
    → index_then (λ v others. option_map (λ ns. make v ns) (keys_of others)) tokens ≡ Some (make v ns)
numbers_read make [] v ns s = absurd s.0
numbers_read make (token ∷ tokens) v ns s =
    number_read_first index_limit (λ v others. option_map (λ ns. make v ns) (keys_of others)) token tokens v s.0.0
    ∙ ap (λ (o : Option (List ℕ)). option_map (λ ns. make v ns) o) (keys_there tokens ns s.0.1 s.1)

-- ---- a block, a node and keys

pub keys_spelled : (make : ℕ → ℕ → List ℕ → Command) (tokens : List (List ℕ)) (c : Command) → index_then (λ b. index_then (λ k others. option_map (λ keys. make b k keys) (keys_of others))) tokens ≡ Some c
    → (b k : ℕ) × (keys : List ℕ) × (make b k keys ≡ c) × (SpellsIndices tokens (b ∷ k ∷ keys) × (0 < length keys))
keys_spelled make tokens c e =
    let p = number_first index_limit (λ b. index_then (λ k others. option_map (λ keys. make b k keys) (keys_of others))) tokens c e in
    let q = numbers_spelled (make p.number) p.others c p.more in
    (p.number, q.0, q.1, q.2, (subst (λ (ts : List (List ℕ)). SpellsIndices ts (p.number ∷ q.0 ∷ q.1)) (sym p.cut) (p.spelled, q.3.0), q.3.1))

pub keys_read : (make : ℕ → ℕ → List ℕ → Command) (tokens : List (List ℕ)) (b k : ℕ) (keys : List ℕ) → SpellsIndices tokens (b ∷ k ∷ keys) × (0 < length keys)
    → index_then (λ b. index_then (λ k others. option_map (λ keys. make b k keys) (keys_of others))) tokens ≡ Some (make b k keys)
keys_read make [] b k keys s = absurd s.0
keys_read make (token ∷ tokens) b k keys s =
    number_read_first index_limit (λ b. index_then (λ k others. option_map (λ keys. make b k keys) (keys_of others))) token tokens b s.0.0
    ∙ numbers_read (make b) tokens k keys (s.0.1, s.1)

-- ---- a block or a component, and how many members are listed

list_length : (n : ℕ) → can_list n ≡ true → (0 < n) × (n ≤ max_listed)
list_length n e = grind (arith, and_parts (ltb 0 n) (not (ltb max_listed n)) e)

list_length_from : (n : ℕ) → 0 < n → n ≤ max_listed → can_list n ≡ true
list_length_from n some few = grind arith

pub listed_spelled : (make : ℕ → ℕ → Command) (tokens : List (List ℕ)) (c : Command) → index_then (λ b. index_then (list_of (make b))) tokens ≡ Some c
    → (b n : ℕ) × (make b n ≡ c) × (SpellsIndices tokens (b ∷ n ∷ []) × ((0 < n) × (n ≤ max_listed)))
listed_spelled make tokens c e =
    let p = number_first index_limit (λ b. index_then (list_of (make b))) tokens c e in
    let q = number_first index_limit (list_of (make p.number)) p.others c p.more in
    let r = cond_some_of (can_list q.number) (alone (make p.number q.number) q.others) c q.more in
    let t = alone_spelled (make p.number q.number) q.others c r.1 in
    let none : SpellsIndices q.others [] = subst (λ (ts : List (List ℕ)). SpellsIndices ts []) (sym t.0) tt in
    let one : SpellsIndices p.others (q.number ∷ []) = subst (λ (ts : List (List ℕ)). SpellsIndices ts (q.number ∷ [])) (sym q.cut) (q.spelled, none) in
    (p.number, q.number, t.1, (subst (λ (ts : List (List ℕ)). SpellsIndices ts (p.number ∷ q.number ∷ [])) (sym p.cut) (p.spelled, one), list_length q.number r.0))

pub listed_read : (make : ℕ → ℕ → Command) (tokens : List (List ℕ)) (b n : ℕ) → SpellsIndices tokens (b ∷ n ∷ []) × ((0 < n) × (n ≤ max_listed)) → index_then (λ b. index_then (list_of (make b))) tokens ≡ Some (make b n)
listed_read make [] b n s = absurd s.0
listed_read make (token ∷ []) b n s = absurd s.0.1
listed_read make (token ∷ count ∷ []) b n s =
    number_read_first index_limit (λ b. index_then (list_of (make b))) token (count ∷ []) b s.0.0 ∙ number_read_first index_limit (list_of (make b)) count [] n s.0.1.0
    ∙ cond-true (can_list n) (Some (make b n)) None (list_length_from n s.1.0 s.1.1)
listed_read make (token ∷ count ∷ other ∷ tokens) b n s = absurd s.0.1.1

-- ---- a rank

with_rank_spelled : (make : ℕ → Command) (tokens : List (List ℕ)) (c : Command) → with_rank make tokens ≡ Some c → (r : ℕ) × (make r ≡ c) × SpellsRank tokens r
with_rank_spelled make tokens c e =
    let p = number_first rank_limit (λ r. alone (make r)) tokens c e in
    let q = alone_spelled (make p.number) p.others c p.more in
    (p.number, q.1, subst (λ (ts : List (List ℕ)). SpellsRank ts p.number) (sym (p.cut ∙ ap (λ (ts : List (List ℕ)). p.token ∷ ts) q.0)) p.spelled)

with_rank_read : (make : ℕ → Command) (tokens : List (List ℕ)) (r : ℕ) → SpellsRank tokens r → with_rank make tokens ≡ Some (make r)
with_rank_read make [] r s = absurd s
with_rank_read make (token ∷ []) r s = number_read_first rank_limit (λ r. alone (make r)) token [] r s
with_rank_read make (token ∷ other ∷ tokens) r s = absurd s

-- ---- a block, and something behind it

block_first : (b : ℕ) (Others : List (List ℕ) → Type 0) (tokens : List (List ℕ)) (token : List ℕ) (others : List (List ℕ)) → tokens ≡ token ∷ others → SpellsIndex token b → Others others → SpellsBlockThen b Others tokens
block_first b Others tokens token others cut s t = subst (SpellsBlockThen b Others) (sym cut) (s, t)

-- what is read behind a block that is spelled
block_read_first : (further : ℕ → List (List ℕ) → Option Command) (Others : List (List ℕ) → Type 0) (tokens : List (List ℕ)) (b : ℕ) (c : Command) → ((others : List (List ℕ)) → Others others → further b others ≡ Some c)
    → SpellsBlockThen b Others tokens → index_then further tokens ≡ Some c
block_read_first further Others [] b c read s = absurd s
block_read_first further Others (token ∷ tokens) b c read s = number_read_first index_limit further token tokens b s.0 ∙ read tokens s.1

pub rank_spelled : (make : ℕ → ℕ → Command) (tokens : List (List ℕ)) (c : Command) → index_then (λ b. with_rank (make b)) tokens ≡ Some c
    → (b r : ℕ) × (make b r ≡ c) × SpellsBlockThen b (λ others. SpellsRank others r) tokens
rank_spelled make tokens c e =
    let p = number_first index_limit (λ b. with_rank (make b)) tokens c e in
    let q = with_rank_spelled (make p.number) p.others c p.more in
    (p.number, q.0, q.1, block_first p.number (λ others. SpellsRank others q.0) tokens p.token p.others p.cut p.spelled q.2)

pub rank_read : (make : ℕ → ℕ → Command) (tokens : List (List ℕ)) (b r : ℕ) → SpellsBlockThen b (λ others. SpellsRank others r) tokens → index_then (λ b. with_rank (make b)) tokens ≡ Some (make b r)
rank_read make tokens b r s =
    block_read_first (λ b. with_rank (make b)) (λ others. SpellsRank others r) tokens b (make b r) (λ others t. with_rank_read (make b) others r t) s

-- ---- a rotation

abbrev Entries : Type 0
Entries = List (ℕ × List ℕ)

pub with_rotation_spelled : (make : Entries → Command) (tokens : List (List ℕ)) (c : Command) → with_rotation make tokens ≡ Some c → (entries : Entries) × (make entries ≡ c) × SpellsRotation tokens entries
with_rotation_spelled make tokens c e =
    let p = map_some make (rotation_of tokens) c e in
    (p.0, p.2, rotation_spelled tokens p.0 p.1)

pub with_rotation_read : (make : Entries → Command) (tokens : List (List ℕ)) (entries : Entries) → SpellsRotation tokens entries → with_rotation make tokens ≡ Some (make entries)
with_rotation_read make tokens entries s = ap (λ (o : Option Entries). option_map make o) (rotation_read tokens entries s)

pub rotation_behind_spelled : (make : ℕ → Entries → Command) (tokens : List (List ℕ)) (c : Command) → index_then (λ b. with_rotation (make b)) tokens ≡ Some c
    → (b : ℕ) × (entries : Entries) × (make b entries ≡ c) × SpellsBlockThen b (λ others. SpellsRotation others entries) tokens
rotation_behind_spelled make tokens c e =
    let p = number_first index_limit (λ b. with_rotation (make b)) tokens c e in
    let q = with_rotation_spelled (make p.number) p.others c p.more in
    (p.number, q.0, q.1, block_first p.number (λ others. SpellsRotation others q.0) tokens p.token p.others p.cut p.spelled q.2)

pub rotation_read_behind : (make : ℕ → Entries → Command) (tokens : List (List ℕ)) (b : ℕ) (entries : Entries) → SpellsBlockThen b (λ others. SpellsRotation others entries) tokens
    → index_then (λ b. with_rotation (make b)) tokens ≡ Some (make b entries)
rotation_read_behind make tokens b entries s =
    block_read_first (λ b. with_rotation (make b)) (λ others. SpellsRotation others entries) tokens b (make b entries) (λ others t. with_rotation_read (make b) others entries t) s

-- ---- a conversion

abbrev ToRank : List (List ℕ) → ℕ → Type 0
ToRank tokens r = SpellsWordThen (codes "rank") (λ others. SpellsRank others r) tokens

abbrev ToRotation : List (List ℕ) → Entries → Type 0
ToRotation tokens entries = SpellsWordThen (codes "to") (λ others. SpellsRotation others entries) tokens

convert_of_spelled : (b : ℕ) (tokens : List (List ℕ)) (c : Command) → convert_of b tokens ≡ Some c
    → ((r : ℕ) × (ConvertRank b r ≡ c) × ToRank tokens r) ⊎ ((entries : Entries) × (ConvertTo b entries ≡ c) × ToRotation tokens entries)
convert_of_spelled b [] c e = absurd (none-some c e)
convert_of_spelled b (name ∷ tokens) c e =
    elim (cases_Bool (bytes_eq name (codes "rank"))) [
      | inl same ↦
          let p = with_rank_spelled (ConvertRank b) tokens c (rw same at e) in
          inl (p.0, p.1, ((bytes_eq-Decides name (codes "rank")).0 same, p.2))
      | inr other ↦
          let q = cond_some_of (bytes_eq name (codes "to")) (with_rotation (ConvertTo b) tokens) c (rw other at e) in
          let p = with_rotation_spelled (ConvertTo b) tokens c q.1 in
          inr (p.0, p.1, ((bytes_eq-Decides name (codes "to")).0 q.0, p.2))
    ]

pub convert_spelled : (tokens : List (List ℕ)) (c : Command) → index_then convert_of tokens ≡ Some c
    → ((b r : ℕ) × (ConvertRank b r ≡ c) × SpellsBlockThen b (λ others. ToRank others r) tokens) ⊎ ((b : ℕ) × (entries : Entries) × (ConvertTo b entries ≡ c) × SpellsBlockThen b (λ others. ToRotation others entries) tokens)
convert_spelled tokens c e =
    let p = number_first index_limit convert_of tokens c e in
    elim (convert_of_spelled p.number p.others c p.more) [
      | inl q ↦ inl (p.number, q.0, q.1, block_first p.number (λ others. ToRank others q.0) tokens p.token p.others p.cut p.spelled q.2)
      | inr q ↦ inr (p.number, q.0, q.1, block_first p.number (λ others. ToRotation others q.0) tokens p.token p.others p.cut p.spelled q.2)
    ]

to_rank_read : (b r : ℕ) (tokens : List (List ℕ)) → ToRank tokens r → convert_of b tokens ≡ Some (ConvertRank b r)
to_rank_read b r [] s = absurd s
to_rank_read b r (name ∷ tokens) s = ap (λ (n : List ℕ). convert_of b (n ∷ tokens)) s.0 ∙ with_rank_read (ConvertRank b) tokens r s.1

to_rotation_read : (b : ℕ) (entries : Entries) (tokens : List (List ℕ)) → ToRotation tokens entries → convert_of b tokens ≡ Some (ConvertTo b entries)
to_rotation_read b entries [] s = absurd s
to_rotation_read b entries (name ∷ tokens) s = ap (λ (n : List ℕ). convert_of b (n ∷ tokens)) s.0 ∙ with_rotation_read (ConvertTo b) tokens entries s.1

pub convert_rank_read : (tokens : List (List ℕ)) (b r : ℕ) → SpellsBlockThen b (λ others. ToRank others r) tokens → index_then convert_of tokens ≡ Some (ConvertRank b r)
convert_rank_read tokens b r s =
    block_read_first convert_of (λ others. ToRank others r) tokens b (ConvertRank b r) (λ others t. to_rank_read b r others t) s

pub convert_to_read : (tokens : List (List ℕ)) (b : ℕ) (entries : Entries) → SpellsBlockThen b (λ others. ToRotation others entries) tokens → index_then convert_of tokens ≡ Some (ConvertTo b entries)
convert_to_read tokens b entries s =
    block_read_first convert_of (λ others. ToRotation others entries) tokens b (ConvertTo b entries) (λ others t. to_rotation_read b entries others t) s
