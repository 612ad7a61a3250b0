-- The tables of a document of TOML: the names of each ascend, also of those inside, its integers have 64 bits, and no string in
-- it is longer than the document. One induction over the grammar of the crate `toml`: of its values, of the nodes that its
-- lines build, and of its lines. What stands in arrays is left out: no cluster has any.
use Rattle.std.proofs.Common.{◌≡◌, ℕ, zero, suc, ◌≤◌, ◌==◌, ◌&&◌, Bool, true, false, Ordering, Less, Equal, Greater, nat_cmp}
use Rattle.std.proofs.Common.{List, [], ◌∷◌, ◌++◌, length, drop, Option, Some, None, FitsSigned, refl, ap, ◌∙◌, subst, arith}
use Rattle.std.proofs.lemmas.Cmp.{nat_list_cmp_total}
use Rattle.std.proofs.lemmas.Option.{none-some, same_Some}
use Rattle.std.specs.Prelude.{if◌then◌else◌, option_map, option_and_then, slice_index}
use Rattle.std.specs.Int.{w64}
use Rattle.std.specs.Cmp.Lexicographic.{slice_cmp}
use Rattle.std.specs.Ordering.{match_ordering, ordering_reverse}
use Rattle.toml_parser.specs.Lexical.{Read, first, skip_ws, skip_blank}
use Rattle.toml_parser.specs.Strings.{Key, key, quoted, recursion_limit}
use Rattle.toml_parser.specs.Numbers.{unquoted}
use Rattle.toml_parser.specs.declared.scalar.Scalar.{Scalar}
use Rattle.toml_parser.specs.declared.scalar.Scalar.TheVariants.{Boolean, Integer, Float, Datetime}
use Rattle.toml.specs.Data.{Data, string, integer, array, table, Items, no_items, Members, no_members, member, push_item, same_key}
use Rattle.toml.specs.Tables.{Definition, Document, Edit, Expression, Node, Nodes, Origin, along_dots, along_header, array_table, at_found, at_key}
use Rattle.toml.specs.Tables.{by_dot, by_header, close, close_node, define, define_as, dot_node, dotted, get_node, header, header_node, implicit}
use Rattle.toml.specs.Tables.{insert, key_value, new_node, no_nodes, node, open_array, open_table, put, redefine, replace, std_table, value}
use Rattle.toml.specs.Parse.{after_byte, after_element, atom, ends_line, expression, header_key, items, key_equals, keyval, line, lines, members, parse_document, read_map, scalar_data, skip_bom, val}
use Rattle.toml.proofs.Blanks.{skip_within}
use Rattle.dt_cluster_file.proofs.TomlTexts.{changed_read, drop_within, by_ways, gave, integer_read, key_read, map_read, one_way, quoted_read, same_read, skip_ws_within, then_read, unquoted_within}

-- ---- what is in order

-- a name that comes before all names of some members, and of some nodes
abbrev pub IsBelowNames : List ℕ → Members → Type 0
IsBelowNames k no_members = Unit {0}
IsBelowNames k (member l d ms) = (slice_cmp nat_cmp k l ≡ Less) × IsBelowNames k ms

abbrev IsBelowNodes : List ℕ → Nodes → Type 0
IsBelowNodes k no_nodes = Unit {0}
IsBelowNodes k (node l x ns) = (slice_cmp nat_cmp k l ≡ Less) × IsBelowNodes k ns

-- data in order: a string has n bytes at most, an integer 64 bits, and the names of a table ascend
abbrev mutual
  pub InOrder : ℕ → Data → Type 0
  InOrder n (string s) = length s ≤ n
  InOrder n (integer z) = FitsSigned w64 z
  InOrder n (table ms) = AreMembersInOrder n ms
  InOrder n other = Unit {0}

  pub AreMembersInOrder : ℕ → Members → Type 0
  AreMembersInOrder n no_members = Unit {0}
  AreMembersInOrder n (member k d ms) = IsBelowNames k ms × InOrder n d × AreMembersInOrder n ms

-- what is not closed yet is in order
abbrev mutual
  IsNodeInOrder : ℕ → Node → Type 0
  IsNodeInOrder n (value d) = InOrder n d
  IsNodeInOrder n (open_table origin ns) = AreNodesInOrder n ns
  IsNodeInOrder n (open_array done last) = Unit {0}

  AreNodesInOrder : ℕ → Nodes → Type 0
  AreNodesInOrder n no_nodes = Unit {0}
  AreNodesInOrder n (node k x ns) = IsBelowNodes k ns × IsNodeInOrder n x × AreNodesInOrder n ns

close_below : (k : List ℕ) (ns : Nodes) → IsBelowNodes k ns → IsBelowNames k (close ns)
close_below k no_nodes h = tt
close_below k (node l x ns) h = (h.0, close_below k ns h.1)

mutual
  close_node_ordered : (n : ℕ) (x : Node) → IsNodeInOrder n x → InOrder n (close_node x)
  close_node_ordered n (value d) h = h
  close_node_ordered n (open_table origin ns) h = close_ordered n ns h
  close_node_ordered n (open_array done last) h = tt

  close_ordered : (n : ℕ) (ns : Nodes) → AreNodesInOrder n ns → AreMembersInOrder n (close ns)
  close_ordered n no_nodes h = tt
  close_ordered n (node k x ns) h = (close_below k ns h.0, close_node_ordered n x h.1, close_ordered n ns h.2)

-- ---- edits

below_later : (j k : List ℕ) (ns : Nodes) → slice_cmp nat_cmp j k ≡ Less → IsBelowNodes k ns → IsBelowNodes j ns
below_later j k no_nodes order h = tt
below_later j k (node l x ns) order h = (nat_list_cmp_total.trans j k l order h.0, below_later j k ns order h.1)

insert_below : (j k : List ℕ) (x : Node) (ns : Nodes) → slice_cmp nat_cmp j k ≡ Less → IsBelowNodes j ns → IsBelowNodes j (insert k x ns)
insert_below j k x no_nodes order h = (order, tt)
insert_below j k x (node l y ns) order h = by (slice_cmp nat_cmp k l) (insert_below j k x ns order h.1)
  where
    by : (o : Ordering) → IsBelowNodes j (insert k x ns) → IsBelowNodes j (match_ordering o (node k x (node l y ns)) (node l x ns) (node l y (insert k x ns)))
    by Less more = (order, h)
    by Equal more = h
    by Greater more = (h.0, more)

replace_below : (j k : List ℕ) (x : Node) (ns : Nodes) → IsBelowNodes j ns → IsBelowNodes j (replace k x ns)
replace_below j k x no_nodes h = tt
replace_below j k x (node l y ns) h = by (same_key k l) (replace_below j k x ns h.1)
  where
    by : (b : Bool) → IsBelowNodes j (replace k x ns) → IsBelowNodes j (if b then node l x ns else node l y (replace k x ns))
    by true more = h
    by false more = (h.0, more)

insert_ordered : (n : ℕ) (k : List ℕ) (x : Node) (ns : Nodes) → IsNodeInOrder n x → AreNodesInOrder n ns → AreNodesInOrder n (insert k x ns)
insert_ordered n k x no_nodes new h = (tt, new, tt)
insert_ordered n k x (node l y ns) new h = by (slice_cmp nat_cmp k l) refl (insert_ordered n k x ns new h.2)
  where
    by : (o : Ordering) → slice_cmp nat_cmp k l ≡ o → AreNodesInOrder n (insert k x ns)
        → AreNodesInOrder n (match_ordering o (node k x (node l y ns)) (node l x ns) (node l y (insert k x ns)))
    by Less is more = ((is, below_later k l ns is h.0), new, h)
    by Equal is more = (h.0, new, h.2)
    by Greater is more = (insert_below l k x ns (nat_list_cmp_total.antisymm l k ∙ ap ordering_reverse is) h.0, h.1, more)

replace_ordered : (n : ℕ) (k : List ℕ) (x : Node) (ns : Nodes) → IsNodeInOrder n x → AreNodesInOrder n ns → AreNodesInOrder n (replace k x ns)
replace_ordered n k x no_nodes new h = tt
replace_ordered n k x (node l y ns) new h = by (same_key k l) (replace_ordered n k x ns new h.2)
  where
    by : (b : Bool) → AreNodesInOrder n (replace k x ns) → AreNodesInOrder n (if b then node l x ns else node l y (replace k x ns))
    by true more = (h.0, new, h.2)
    by false more = (replace_below l k x ns h.0, h.1, more)

-- what stands at a key of nodes in order is in order
found_ordered : (n : ℕ) (k : List ℕ) (ns : Nodes) (x : Node) → AreNodesInOrder n ns → get_node k ns ≡ Some x → IsNodeInOrder n x
found_ordered n k no_nodes x h e = absurd (none-some x e)
found_ordered n k (node l y ns) x h e =
    by_ways (same_key k l) (Some y) (get_node k ns) x e
    (λ here_so here. subst (IsNodeInOrder n) (same_Some y x here) h.1)
    (λ later_so later. found_ordered n k ns x h.2 later)

-- an edit that keeps order
abbrev KeepsOrder : ℕ → Edit → Type 0
KeepsOrder n edit = (ns result : Nodes) → AreNodesInOrder n ns → edit ns ≡ Some result → AreNodesInOrder n result

-- what a line defines is in order
abbrev IsDefinitionInOrder : ℕ → Definition → Type 0
IsDefinitionInOrder n (key_value d) = InOrder n d
IsDefinitionInOrder n other = Unit {0}

new_ordered : (n : ℕ) (what : Definition) → IsDefinitionInOrder n what → IsNodeInOrder n (new_node what)
new_ordered n (key_value d) h = h
new_ordered n std_table h = tt
new_ordered n array_table h = tt

redefine_ordered : (n : ℕ) (what : Definition) (x y : Node) → IsNodeInOrder n x → redefine what x ≡ Some y → IsNodeInOrder n y
redefine_ordered n std_table (open_table implicit inner) y h e = subst (IsNodeInOrder n) (same_Some _ y e) h
redefine_ordered n array_table (open_array done last) y h e = subst (IsNodeInOrder n) (same_Some _ y e) tt
redefine_ordered n (key_value d) x y h e = absurd (none-some y e)
redefine_ordered n std_table (value d) y h e = absurd (none-some y e)
redefine_ordered n std_table (open_table dotted inner) y h e = absurd (none-some y e)
redefine_ordered n std_table (open_table header inner) y h e = absurd (none-some y e)
redefine_ordered n std_table (open_array done last) y h e = absurd (none-some y e)
redefine_ordered n array_table (value d) y h e = absurd (none-some y e)
redefine_ordered n array_table (open_table origin inner) y h e = absurd (none-some y e)

-- another node at a key that is there
replaced_ordered : (n : ℕ) (k : List ℕ) (ns result : Nodes) (o : Option Node) → AreNodesInOrder n ns → ((y : Node) → o ≡ Some y → IsNodeInOrder n y)
    → option_map (λ y. replace k y ns) o ≡ Some result → AreNodesInOrder n result
replaced_ordered n k ns result None h new e = absurd (none-some result e)
replaced_ordered n k ns result (Some y) h new e = subst (AreNodesInOrder n) (same_Some _ result e) (replace_ordered n k y ns (new y refl) h)

at_key_ordered : (n : ℕ) (k : List ℕ) (what : Definition) → IsDefinitionInOrder n what → KeepsOrder n (at_key k what)
unfolding at_key
at_key_ordered n k what fits ns result h e = by (get_node k ns) refl e
  where
    by : (o : Option Node) → get_node k ns ≡ o → at_found k what ns o ≡ Some result → AreNodesInOrder n result
    by None is e = subst (AreNodesInOrder n) (same_Some _ result e) (insert_ordered n k (new_node what) ns (new_ordered n what fits) h)
    by (Some x) is e = replaced_ordered n k ns result (redefine what x) h (λ y same. redefine_ordered n what x y (found_ordered n k ns x h is) same) e

-- a table inside that is edited
inside_ordered : (n : ℕ) (edit : Edit) (origin : Origin) (inner : Nodes) (y : Node) → KeepsOrder n edit → AreNodesInOrder n inner
    → option_map (open_table origin) (edit inner) ≡ Some y → IsNodeInOrder n y
inside_ordered n edit origin inner y keeps h e =
    let found = map_read (open_table origin) (edit inner) y e in
    subst (IsNodeInOrder n) found.2 (keeps inner found.0 h found.1)

header_ordered : (n : ℕ) (edit : Edit) (x y : Node) → KeepsOrder n edit → IsNodeInOrder n x → header_node edit x ≡ Some y → IsNodeInOrder n y
header_ordered n edit (value d) y keeps h e = absurd (none-some y e)
header_ordered n edit (open_table origin inner) y keeps h e = inside_ordered n edit origin inner y keeps h e
header_ordered n edit (open_array done last) y keeps h e =
    let found = map_read (open_array done) (edit last) y e in
    subst (IsNodeInOrder n) found.2 tt

dot_ordered : (n : ℕ) (edit : Edit) (x y : Node) → KeepsOrder n edit → IsNodeInOrder n x → dot_node edit x ≡ Some y → IsNodeInOrder n y
dot_ordered n edit (value d) y keeps h e = absurd (none-some y e)
dot_ordered n edit (open_table header inner) y keeps h e = absurd (none-some y e)
dot_ordered n edit (open_table implicit inner) y keeps h e = inside_ordered n edit dotted inner y keeps h e
dot_ordered n edit (open_table dotted inner) y keeps h e = inside_ordered n edit dotted inner y keeps h e
dot_ordered n edit (open_array done last) y keeps h e = absurd (none-some y e)

-- a table that is made where there was none
made_ordered : (n : ℕ) (edit : Edit) (origin : Origin) (k : List ℕ) (ns result : Nodes) → KeepsOrder n edit → AreNodesInOrder n ns
    → option_map (λ new. insert k (open_table origin new) ns) (edit no_nodes) ≡ Some result → AreNodesInOrder n result
made_ordered n edit origin k ns result keeps h e =
    let found = map_read (λ new. insert k (open_table origin new) ns) (edit no_nodes) result e in
    subst (AreNodesInOrder n) found.2 (insert_ordered n k (open_table origin found.0) ns (keeps no_nodes found.0 tt found.1) h)

by_header_ordered : (n : ℕ) (k : List ℕ) (edit : Edit) (ns result : Nodes) (o : Option Node) → KeepsOrder n edit → AreNodesInOrder n ns → get_node k ns ≡ o
    → by_header k edit ns o ≡ Some result → AreNodesInOrder n result
by_header_ordered n k edit ns result None keeps h is e = made_ordered n edit implicit k ns result keeps h e
by_header_ordered n k edit ns result (Some x) keeps h is e =
    replaced_ordered n k ns result (header_node edit x) h (λ y same. header_ordered n edit x y keeps (found_ordered n k ns x h is) same) e

by_dot_ordered : (n : ℕ) (k : List ℕ) (edit : Edit) (ns result : Nodes) (o : Option Node) → KeepsOrder n edit → AreNodesInOrder n ns → get_node k ns ≡ o
    → by_dot k edit ns o ≡ Some result → AreNodesInOrder n result
by_dot_ordered n k edit ns result None keeps h is e = made_ordered n edit dotted k ns result keeps h e
by_dot_ordered n k edit ns result (Some x) keeps h is e =
    replaced_ordered n k ns result (dot_node edit x) h (λ y same. dot_ordered n edit x y keeps (found_ordered n k ns x h is) same) e

header_path_ordered : (n : ℕ) (path : List (List ℕ)) (edit : Edit) → KeepsOrder n edit → KeepsOrder n (along_header path edit)
unfolding along_header
header_path_ordered n [] edit keeps ns result h e = keeps ns result h e
header_path_ordered n (k ∷ path) edit keeps ns result h e =
    by_header_ordered n k (along_header path edit) ns result (get_node k ns) (header_path_ordered n path edit keeps) h refl e

dot_path_ordered : (n : ℕ) (path : List (List ℕ)) (edit : Edit) → KeepsOrder n edit → KeepsOrder n (along_dots path edit)
unfolding along_dots
dot_path_ordered n [] edit keeps ns result h e = keeps ns result h e
dot_path_ordered n (k ∷ path) edit keeps ns result h e =
    by_dot_ordered n k (along_dots path edit) ns result (get_node k ns) (dot_path_ordered n path edit keeps) h refl e

put_ordered : (n : ℕ) (k : Key) (d : Data) → InOrder n d → KeepsOrder n (put k d)
put_ordered n k d fits = dot_path_ordered n k.0 (at_key k.1 (key_value d)) (at_key_ordered n k.1 (key_value d) fits)

define_ordered : (n : ℕ) (doc : Document) (e : Expression) (next : Document) → AreNodesInOrder n doc.0 → IsDefinitionInOrder n e.1 → define doc e ≡ Some next
    → AreNodesInOrder n next.0
unfolding define
define_ordered n doc e next h fits is = by e.1 fits is
  where
    rooted : (path after : List (List ℕ)) (edit : Edit) → KeepsOrder n edit → option_map (λ root. (root, after)) (along_header path edit doc.0) ≡ Some next
        → AreNodesInOrder n next.0
    rooted path after edit keeps is =
        let found = map_read (λ root. (root, after)) (along_header path edit doc.0) next is in
        let root : found.0 ≡ next.0 = ap (λ p. p.0) found.2 in
        subst (AreNodesInOrder n) root (header_path_ordered n path edit keeps doc.0 found.0 h found.1)

    by : (what : Definition) → IsDefinitionInOrder n what → define_as doc e.0 what ≡ Some next → AreNodesInOrder n next.0
    by (key_value d) fits is = rooted doc.1 doc.1 (put e.0 d) (put_ordered n e.0 d fits) is
    by std_table fits is = rooted e.0.0 (e.0.0 ++ e.0.1 ∷ []) (at_key e.0.1 std_table) (at_key_ordered n e.0.1 std_table fits) is
    by array_table fits is = rooted e.0.0 (e.0.0 ++ e.0.1 ∷ []) (at_key e.0.1 array_table) (at_key_ordered n e.0.1 array_table fits) is

-- ---- values

after_byte_within : (byte : ℕ) (text rest : List ℕ) → after_byte byte text ≡ Some rest → length rest ≤ length text
after_byte_within byte text rest h =
    let is = same_Some (drop 1 text) rest (one_way (first text == byte) (Some (drop 1 text)) rest h).1 in
    omega (arith, ap length is, drop_within 1 text)

after_element_within : (closing : ℕ) (text rest : List ℕ) → after_element closing text ≡ Some rest → length rest ≤ length text
unfolding after_element
after_element_within closing text rest h =
    let start = skip_blank text in
    by_ways (first start == 44) (Some (drop 1 start)) (if first start == closing then Some start else None) rest h
    (λ more_so more. omega (arith, ap length (same_Some (drop 1 start) rest more), drop_within 1 start, skip_within text))
    (λ last_so last. omega (arith, ap length (same_Some start rest (one_way (first start == closing) (Some start) rest last).1), skip_within text))

key_equals_within : (text : List ℕ) (k : Key) (rest : List ℕ) → key_equals text ≡ gave k rest → length rest ≤ length text
unfolding key_equals
key_equals_within text k rest h =
    let (found, read, more) = then_read _ (key text) (k, rest) h in
    let (after, is, same) = map_read _ (after_byte 61 found.1) (k, rest) more in
    omega (arith, ap (λ p. length p.1) same, skip_ws_within after, after_byte_within 61 found.1 after is, key_read text found.0 found.1 read)

-- a reader of values gives, of a text of n bytes at most, a value in order, and the rest has n bytes at most
abbrev ReadsOrder : ℕ → (List ℕ → Read Data) → Type 0
ReadsOrder n read = (text : List ℕ) (d : Data) (rest : List ℕ) → length text ≤ n → read text ≡ gave d rest → InOrder n d × (length rest ≤ n)

scalar_ordered : (n : ℕ) (text : List ℕ) (s : Scalar) (rest : List ℕ) → unquoted text ≡ gave s rest → InOrder n (scalar_data s)
scalar_ordered n text (Boolean b) rest is = tt
scalar_ordered n text (Integer z) rest is = integer_read text z rest is
scalar_ordered n text (Float x) rest is = tt
scalar_ordered n text (Datetime t) rest is = tt

atom_ordered : (n : ℕ) → ReadsOrder n atom
unfolding atom
atom_ordered n text d rest within h =
    by_ways _ _ _ (d, rest) h
    (λ quote_so quote.
    let (bytes, read, is) = changed_read string (quoted text) d rest quote in
    let short = quoted_read text bytes rest quote_so read in
    (subst (InOrder n) is (omega (arith, short, within)), omega (arith, short, within)))
    (λ other_so other.
    let (s, read, is) = changed_read scalar_data (unquoted text) d rest other in
    (subst (InOrder n) is (scalar_ordered n text s rest read), omega (arith, within, unquoted_within text s rest read)))

items_within : (n : ℕ) (read : List ℕ → Read Data) → ReadsOrder n read → (m : ℕ) (found : Items) (text : List ℕ) (ds : Items) (rest : List ℕ) → length text ≤ n
    → items read m found text ≡ gave ds rest → length rest ≤ n
unfolding items
items_within n read reads zero found text ds rest within h = absurd (none-some _ h)
items_within n read reads (suc m) found text ds rest within h =
    let start = skip_blank text in
    let more_items = option_and_then (λ v. option_and_then (items read m (push_item found v.0)) (after_element 93 v.1)) (read start) in
    by_ways (first start == 93) (gave found (drop 1 start)) more_items (ds, rest) h
    (λ end_so end. omega (arith, ap length (same_read found ds (drop 1 start) rest end).1, drop_within 1 start, skip_within text, within))
    (λ more_so more.
    let (v, is, goes) = then_read _ (read start) (ds, rest) more in
    let (after, ends, later) = then_read _ (after_element 93 v.1) (ds, rest) goes in
    let left = (reads start v.0 v.1 (omega (arith, skip_within text, within)) is).1 in
    items_within n read reads m (push_item found v.0) after ds rest (omega (arith, left, after_element_within 93 v.1 after ends)) later)

keyval_ordered : (n : ℕ) (read : List ℕ → Read Data) → ReadsOrder n read → (text : List ℕ) (pair : Key × Data) (rest : List ℕ) → length text ≤ n
    → keyval read text ≡ gave pair rest → InOrder n pair.1 × (length rest ≤ n)
keyval_ordered n read reads text pair rest within h =
    let (k, is, more) = then_read _ (key_equals text) (pair, rest) h in
    let (d, got, same) = changed_read _ (read k.1) pair rest more in
    let fine = reads k.1 d rest (omega (arith, within, key_equals_within text k.0 k.1 is)) got in
    (subst (InOrder n) (ap (λ p. p.1) same) fine.0, fine.1)

members_ordered : (n : ℕ) (read : List ℕ → Read Data) → ReadsOrder n read → (m : ℕ) (found : Nodes) (text : List ℕ) (ms : Members) (rest : List ℕ) → length text ≤ n
    → AreNodesInOrder n found → members read m found text ≡ gave ms rest → AreMembersInOrder n ms × (length rest ≤ n)
unfolding members
members_ordered n read reads zero found text ms rest within order h = absurd (none-some _ h)
members_ordered n read reads (suc m) found text ms rest within order h =
    let start = skip_blank text in
    let more_members = option_and_then (λ e. option_and_then (λ with. option_and_then (members read m with) (after_element 125 e.1)) (put e.0.0 e.0.1 found)) (keyval read start) in
    by_ways (first start == 125) (gave (close found) (drop 1 start)) more_members (ms, rest) h
    (λ end_so end.
    let is = same_read (close found) ms (drop 1 start) rest end in
    (subst (AreMembersInOrder n) is.0 (close_ordered n found order), omega (arith, ap length is.1, drop_within 1 start, skip_within text, within)))
    (λ more_so more.
    let (e, is, goes) = then_read _ (keyval read start) (ms, rest) more in
    let (with, made, on) = then_read _ (put e.0.0 e.0.1 found) (ms, rest) goes in
    let (after, ends, later) = then_read _ (after_element 125 e.1) (ms, rest) on in
    let got = keyval_ordered n read reads start e.0 e.1 (omega (arith, skip_within text, within)) is in
    let left = after_element_within 125 e.1 after ends in
    members_ordered n read reads m with after ms rest (omega (arith, got.1, left)) (put_ordered n e.0.0 e.0.1 got.0 found with order made) later)

val_step : (n depth : ℕ) → ReadsOrder n (val depth) → (bracket brace : Bool) (text : List ℕ) (d : Data) (rest : List ℕ) → length text ≤ n
    → (if bracket then read_map array (items (val depth) (length text) no_items (drop 1 text))
    else if brace then read_map table (members (val depth) (length text) no_nodes (drop 1 text)) else atom text) ≡ gave d rest
    → InOrder n d × (length rest ≤ n)
val_step n depth reads true brace text d rest within h =
    let (ds, read, is) = changed_read array (items (val depth) (length text) no_items (drop 1 text)) d rest h in
    (subst (InOrder n) is tt, items_within n (val depth) reads (length text) no_items (drop 1 text) ds rest (omega (arith, drop_within 1 text, within)) read)
val_step n depth reads false true text d rest within h =
    let (ms, read, is) = changed_read table (members (val depth) (length text) no_nodes (drop 1 text)) d rest h in
    let got = members_ordered n (val depth) reads (length text) no_nodes (drop 1 text) ms rest (omega (arith, drop_within 1 text, within)) tt read in
    (subst (InOrder n) is got.0, got.1)
val_step n depth reads false false text d rest within h = atom_ordered n text d rest within h

val_ordered : (n depth : ℕ) → ReadsOrder n (val depth)
unfolding val
val_ordered n zero text d rest within h = atom_ordered n text d rest within h
val_ordered n (suc depth) text d rest within h = val_step n depth (val_ordered n depth) (first text == 91) (first text == 123) text d rest within h

-- ---- lines

header_key_within : (text : List ℕ) (k : Key) (rest : List ℕ) → header_key text ≡ gave k rest → length rest ≤ length text
unfolding header_key
header_key_within text k rest h =
    let (found, read, more) = then_read _ (key (skip_ws text)) (k, rest) h in
    let (after, is, same) = map_read _ (after_byte 93 found.1) (k, rest) more in
    omega (arith, ap (λ p. length p.1) same, after_byte_within 93 found.1 after is, key_read (skip_ws text) found.0 found.1 read, skip_ws_within text)

abbrev expressed : Key → Definition → Expression
expressed k what = (k, what)

abbrev before_rest : Expression → List ℕ → Expression × List ℕ
before_rest e rest = (e, rest)

expression_step : (n : ℕ) (doubled headed : Bool) (text : List ℕ) (e : Expression) (rest : List ℕ) → length text ≤ n
    → (if doubled then option_and_then (λ k. option_map (before_rest (expressed k.0 array_table)) (after_byte 93 k.1)) (header_key (drop 2 text))
    else if headed then read_map (λ (k : Key). expressed k std_table) (header_key (drop 1 text))
    else read_map (λ (p : Key × Data). expressed p.0 (key_value p.1)) (keyval (val recursion_limit) text)) ≡ gave e rest
    → IsDefinitionInOrder n e.1 × (length rest ≤ n)
expression_step n true headed text e rest within h =
    let (k, read, more) = then_read _ (header_key (drop 2 text)) (e, rest) h in
    let (after, is, same) = map_read (before_rest (expressed k.0 array_table)) (after_byte 93 k.1) (e, rest) more in
    let left = header_key_within (drop 2 text) k.0 k.1 read in
    let what : array_table ≡ e.1 = ap (λ (p : Expression × List ℕ). p.0.1) same in
    let ends : after ≡ rest = ap (λ (p : Expression × List ℕ). p.1) same in
    (subst (IsDefinitionInOrder n) what tt, omega (arith, ap length ends, after_byte_within 93 k.1 after is, left, drop_within 2 text, within))
expression_step n false true text e rest within h =
    let (k, read, same) = changed_read (λ (k : Key). expressed k std_table) (header_key (drop 1 text)) e rest h in
    let what : std_table ≡ e.1 = ap (λ (x : Expression). x.1) same in
    (subst (IsDefinitionInOrder n) what tt, omega (arith, header_key_within (drop 1 text) k rest read, drop_within 1 text, within))
expression_step n false false text e rest within h =
    let (p, read, same) = changed_read (λ (p : Key × Data). expressed p.0 (key_value p.1)) (keyval (val recursion_limit) text) e rest h in
    let got = keyval_ordered n (val recursion_limit) (val_ordered n recursion_limit) text p rest within read in
    let what : key_value p.1 ≡ e.1 = ap (λ (x : Expression). x.1) same in
    (subst (IsDefinitionInOrder n) what got.0, got.1)

expression_ordered : (n : ℕ) (text : List ℕ) (e : Expression) (rest : List ℕ) → length text ≤ n → expression text ≡ gave e rest → IsDefinitionInOrder n e.1 × (length rest ≤ n)
unfolding expression
expression_ordered n text e rest within h = expression_step n (first text == 91 && slice_index text 1 == 91) (first text == 91) text e rest within h

line_ordered : (n : ℕ) (text : List ℕ) (e : Expression) (rest : List ℕ) → length text ≤ n → line text ≡ gave e rest → IsDefinitionInOrder n e.1 × (length rest ≤ n)
unfolding line
line_ordered n text e rest within h =
    let (found, read, more) = then_read _ (expression text) (e, rest) h in
    expression_ordered n text e rest within (read ∙ (one_way (ends_line (skip_ws found.1)) (Some found) (e, rest) more).1)

lines_ordered : (n m : ℕ) (doc : Document) (text : List ℕ) (last : Document) → length text ≤ n → AreNodesInOrder n doc.0 → lines m doc text ≡ Some last → AreNodesInOrder n last.0
unfolding lines
lines_ordered n zero doc text last within order h = absurd (none-some _ h)
lines_ordered n (suc m) doc text last within order h =
    let start = skip_blank text in
    let more_lines = option_and_then (λ e. option_and_then (λ next. lines m next e.1) (define doc e.0)) (line start) in
    by_ways (length start == 0) (Some doc) more_lines last h
    (λ end_so end. subst (λ (d : Document). AreNodesInOrder n d.0) (same_Some doc last end) order)
    (λ more_so more.
    let (e, read, goes) = then_read _ (line start) last more in
    let (next, made, later) = then_read _ (define doc e.0) last goes in
    let got = line_ordered n start e.0 e.1 (omega (arith, skip_within text, within)) read in
    lines_ordered n m next e.1 last got.1 (define_ordered n doc e.0 next order got.0 made) later)

skip_bom_within : (text : List ℕ) → length (skip_bom text) ≤ length text
unfolding skip_bom
skip_bom_within text = by ((first text == 0xEF && slice_index text 1 == 0xBB) && slice_index text 2 == 0xBF)
  where
    by : (b : Bool) → length (if b then drop 3 text else text) ≤ length text
    by true = drop_within 3 text
    by false = omega arith

-- the table that a text is, is in order
pub document_ordered : (text : List ℕ) (top : Members) → parse_document text ≡ Some top → AreMembersInOrder (length text) top
unfolding parse_document
document_ordered text top h =
    let (doc, read, is) = map_read _ (lines (suc (length text)) (no_nodes, []) (skip_bom text)) top h in
    subst (AreMembersInOrder (length text)) is
    (close_ordered (length text) doc.0 (lines_ordered (length text) (suc (length text)) (no_nodes, []) (skip_bom text) doc (skip_bom_within text) tt read))
