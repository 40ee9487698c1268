-- Lines, tokens and commands, worked out on small scripts.
use Rattle.std.proofs.Common.{◌≡◌, ℕ, List, [], ◌∷◌, Option, Some, None, Ok, Err, codes, true, false, refl}
use Rattle.spqr_script.specs.Number.{number_below}
use Rattle.spqr_script.specs.Line.{cut_lines, lines_of, is_passed_over, tokens_of}
use Rattle.spqr_script.specs.Words.{word_among}
use Rattle.spqr_script.specs.Reading.{indices_of, entry_of, entries_after, rotation_of, command_of, commands_from}
use Rattle.spqr_script.specs.declared.command.Command.{Command}
use Rattle.spqr_script.specs.declared.command.Command.TheVariants.{Euler, Show, Flip, Permute, ConvertRank, ConvertTo, Gml, Whole, Regroup, ListWhole, ConvertWhole}

-- a last line without a line feed is a line, and nothing behind the last line feed is none
two_lines : lines_of (codes "gml\neuler") ≡ codes "gml" ∷ codes "euler" ∷ []
unfolding cut_lines
two_lines = refl

ended_lines : lines_of (codes "gml\n\neuler\r\n") ≡ codes "gml" ∷ [] ∷ codes "euler" ∷ []
unfolding cut_lines
ended_lines = refl

-- one carriage return is dropped, at the very end alone
returns : lines_of (codes "gml \r\n\r\r\ngml\r ") ≡ codes "gml " ∷ codes "\r" ∷ codes "gml\r " ∷ []
unfolding cut_lines
returns = refl

comment : is_passed_over (codes " \t# gml") ≡ true
unfolding is_passed_over
comment = refl

blank : is_passed_over (codes " \t ") ≡ true
unfolding is_passed_over
blank = refl

carriage_return : is_passed_over (codes "\r") ≡ false
unfolding is_passed_over
carriage_return = refl

close_tokens : tokens_of (codes "\teuler 0:10 1;1 : 0 ") ≡ codes "euler" ∷ codes "0" ∷ codes ":" ∷ codes "10" ∷ codes "1" ∷ codes ";" ∷ codes "1" ∷ codes ":" ∷ codes "0" ∷ []
unfolding tokens_of
close_tokens = refl

leading_zeros : number_below 16 (codes "0015") ≡ Some 15
leading_zeros = refl

past_range : number_below 16 (codes "16") ≡ None
past_range = refl

no_digits : number_below 16 [] ≡ None
no_digits = refl

spelled : List ℕ → Option Command
spelled line = command_of (tokens_of line)

empty_rotation : spelled (codes "euler") ≡ Some (Euler [])
unfolding spelled tokens_of command_of word_among rotation_of
empty_rotation = refl

path_of_two : spelled (codes "euler 0: 0; 1: 0 1; 2: 1") ≡ Some (Euler ((0, 0 ∷ []) ∷ (1, 0 ∷ 1 ∷ []) ∷ (2, 1 ∷ []) ∷ []))
unfolding spelled tokens_of command_of word_among rotation_of entries_after entry_of indices_of
path_of_two = refl

lone_vertices : spelled (codes "euler 0 : 1 ;2:") ≡ Some (Euler ((0, 1 ∷ []) ∷ (2, []) ∷ []))
unfolding spelled tokens_of command_of word_among rotation_of entries_after entry_of indices_of
lone_vertices = refl

last_semicolon : spelled (codes "euler 0: 0;") ≡ None
unfolding spelled tokens_of command_of word_among rotation_of entries_after entry_of indices_of
last_semicolon = refl

falling : spelled (codes "euler 1: 0; 0: 1") ≡ None
unfolding spelled tokens_of command_of word_among rotation_of entries_after entry_of indices_of
falling = refl

upper_case : spelled (codes "EULER") ≡ None
unfolding spelled tokens_of command_of word_among
upper_case = refl

gml_with_more : spelled (codes "gml 1") ≡ None
unfolding spelled tokens_of command_of word_among
gml_with_more = refl

two_numbers : spelled (codes "flip 00 2") ≡ Some (Flip 0 2)
unfolding spelled tokens_of command_of word_among
two_numbers = refl

keys_in_order : spelled (codes "permute 0 1 6 0 6") ≡ Some (Permute 0 1 (6 ∷ 0 ∷ 6 ∷ []))
unfolding spelled tokens_of command_of word_among indices_of
keys_in_order = refl

no_keys : spelled (codes "permute 0 1 ") ≡ None
unfolding spelled tokens_of command_of word_among indices_of
no_keys = refl

last_block : spelled (codes "show 4294967295") ≡ Some (Show 4294967295)
unfolding spelled tokens_of command_of word_among
last_block = refl

past_last_block : spelled (codes "show 4294967296") ≡ None
unfolding spelled tokens_of command_of word_among
past_last_block = refl

too_many_listed : spelled (codes "list 0 10001") ≡ None
unfolding spelled tokens_of command_of word_among
too_many_listed = refl

to_a_rank : spelled (codes "convert 0 rank 7") ≡ Some (ConvertRank 0 7)
unfolding spelled tokens_of command_of word_among
to_a_rank = refl

to_a_rotation : spelled (codes "convert 0 to 0:7") ≡ Some (ConvertTo 0 ((0, 7 ∷ []) ∷ []))
unfolding spelled tokens_of command_of word_among rotation_of entries_after entry_of indices_of
to_a_rotation = refl

a_component : spelled (codes "whole 2") ≡ Some (Whole 2)
unfolding spelled tokens_of command_of word_among
a_component = refl

edges_in_order : spelled (codes "regroup 0 3 2 5") ≡ Some (Regroup 0 (3 ∷ 2 ∷ 5 ∷ []))
unfolding spelled tokens_of command_of word_among indices_of
edges_in_order = refl

no_edges : spelled (codes "regroup 0") ≡ None
unfolding spelled tokens_of command_of word_among indices_of
no_edges = refl

members_listed : spelled (codes "listwhole 0 10000") ≡ Some (ListWhole 0 10000)
unfolding spelled tokens_of command_of word_among
members_listed = refl

too_many_members : spelled (codes "listwhole 0 10001") ≡ None
unfolding spelled tokens_of command_of word_among
too_many_members = refl

to_a_lone_vertex : spelled (codes "convertwhole 1 6:") ≡ Some (ConvertWhole 1 ((6, []) ∷ []))
unfolding spelled tokens_of command_of word_among rotation_of entries_after entry_of indices_of
to_a_lone_vertex = refl

second_line_bad : commands_from 1 (lines_of (codes "# c\nlist 0 10001")) ≡ Err 2
unfolding cut_lines is_passed_over tokens_of command_of word_among commands_from
second_line_bad = refl

three_commands : commands_from 1 (lines_of (codes "gml\r\n\n# c\n euler\n\tgml")) ≡ Ok (Gml ∷ Euler [] ∷ Gml ∷ [])
unfolding cut_lines is_passed_over tokens_of command_of word_among rotation_of commands_from
three_commands = refl
