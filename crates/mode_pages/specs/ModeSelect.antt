-- What MODE SELECT makes of a parameter list (SPC-4, MODE SELECT (6) and (10) commands, mode parameter list format): a chain
-- of steps from the front, the first fault of which is the refusal.
use Rattle.std.specs.Prelude.{ℕ, zero, suc, ◌+◌, ◌-◌, ◌*◌, Bool, true, if◌then◌else◌, ◌==◌, nat_lt, nat_le, ◌&&◌, ◌||◌, bit_and, bit_or, bit_xor, List, [], ◌∷◌, length, drop, take, slice_index, Option, Some, None, Result, Ok, Err}
use Rattle.std.specs.List.{list_all, zip}
use Rattle.std.specs.Int.{w32, from_be_bytes}
use Rattle.sense_data.specs.declared.sense.Sense.{Sense}
use Rattle.mode_pages.specs.declared.settings.Settings.{Settings}
use Rattle.mode_pages.specs.declared.page.Page.{Page}
use Rattle.mode_pages.specs.declared.page.Page.TheVariants.{ErrorRecovery, Caching, BackgroundControl}
use Rattle.mode_pages.specs.Pages.{page_bytes, changeable, is_set}
use Rattle.mode_pages.specs.Refusals.{parameter_list_length_error, invalid_field_in_list}

-- the next step, where there was no fault
abbrev pub and_then : {A B : Type 0} → Result A Sense → (A → Result B Sense) → Result B Sense
and_then (Ok a) next = next a
and_then (Err fault) next = Err fault

-- the length of the header of 10 or of 6
abbrev pub header_length : Bool → ℕ
header_length ten = if ten then 8 else 4

-- the block descriptor length that the header tells
abbrev pub descriptor_length : Bool → List ℕ → ℕ
descriptor_length ten list = if ten then slice_index list 6 * 256 + slice_index list 7 else slice_index list 3

-- a descriptor may have as its block count 0, which means as now, all ones, which means all blocks, or the capacity, and as
-- its block length 512 alone (SBC-3, short LBA mode parameter block descriptor)
abbrev pub describes : ℕ → List ℕ → Bool
describes capacity list =
    let count = from_be_bytes w32 (slice_index list 0 ∷ slice_index list 1 ∷ slice_index list 2 ∷ slice_index list 3 ∷ []) in
    let block_length = from_be_bytes w32 (0 ∷ slice_index list 5 ∷ slice_index list 6 ∷ slice_index list 7 ∷ []) in
    ((count == 0) || (count == 0xFFFF_FFFF) || (count == capacity)) && (block_length == 512)

-- what stands behind the block descriptor at the front of a list
abbrev pub behind_descriptor : ℕ → List ℕ → Result (List ℕ) Sense
behind_descriptor capacity list =
    if nat_lt (length list) 8 then Err parameter_list_length_error else
    if describes capacity list then Ok (drop 8 list) else
    Err invalid_field_in_list

-- what stands behind a block descriptor of this length: of 8, or there is none
abbrev pub behind_descriptor_of : ℕ → ℕ → List ℕ → Result (List ℕ) Sense
behind_descriptor_of capacity descriptor list =
    if descriptor == 0 then Ok list else
    if descriptor == 8 then behind_descriptor capacity list else
    Err invalid_field_in_list

-- the pages of a list, behind its header and block descriptor
abbrev pub pages_part : ℕ → Bool → List ℕ → Result (List ℕ) Sense
pages_part capacity ten list =
    if nat_lt (length list) (header_length ten) then Err parameter_list_length_error else
    behind_descriptor_of capacity (descriptor_length ten list) (drop (header_length ten) list)

-- whether the page at the front of a list is of the format with a subpage
abbrev pub has_subpage : List ℕ → Bool
has_subpage list = is_set (slice_index list 0) 0x40

-- the length of its head
abbrev pub head_length : List ℕ → ℕ
head_length list = if has_subpage list then 4 else 2

-- the length of the whole page as its head tells it; bytes that aren't there count as 0, so that a page whose head is cut
-- short is longer than the list
abbrev pub page_length : List ℕ → ℕ
page_length list =
    if has_subpage list then 4 + (slice_index list 2 * 256 + slice_index list 3) else 2 + slice_index list 1

-- the page at the front of a list, which has to be there in full
abbrev pub front_page : List ℕ → Result (List ℕ) Sense
front_page list =
    if nat_lt (length list) (page_length list) then Err parameter_list_length_error else Ok (take (page_length list) list)

-- which page it is by its first two bytes, without bit 7 of the first; the second is a subpage code where bit 6 is set
abbrev pub page_named : ℕ → ℕ → Option Page
page_named first second =
    if bit_and first 0x7F == 0x01 then Some ErrorRecovery else
    if bit_and first 0x7F == 0x08 then Some Caching else
    if (bit_and first 0x7F == 0x5C) && (second == 0x01) then Some BackgroundControl else
    None

-- whether two bytes differ in changeable bits alone: with those that differ, the changeable ones are no more than they were
abbrev pub differ_within : ℕ → ℕ → ℕ → Bool
differ_within mask present given = bit_or mask (bit_xor present given) == mask

-- the same of two pages
abbrev pub differ_only_in : List ℕ → List ℕ → List ℕ → Bool
differ_only_in mask present given = list_all (λ t. differ_within t.0 t.1.0 t.1.1) (zip mask (zip present given))

-- at most 20 retries
abbrev pub retries_allowed : Page → List ℕ → Bool
retries_allowed ErrorRecovery given = nat_le (slice_index given 3) 20
retries_allowed Caching given = true
retries_allowed BackgroundControl given = true

-- the settings that a page gives
abbrev pub with_page : Page → Settings → List ℕ → Settings
with_page ErrorRecovery s given = record s {
  awre = is_set (slice_index given 2) 0x80;
  arre = is_set (slice_index given 2) 0x40;
  per = is_set (slice_index given 2) 0x04;
  retry = slice_index given 3;
}
with_page Caching s given = record s {
  wce = is_set (slice_index given 2) 0x04;
  rcd = is_set (slice_index given 2) 0x01;
}
with_page BackgroundControl s given = record s { bms = is_set (slice_index given 4) 0x01 }

-- whether a page may be taken: it has its length, differs behind the head from the present one in changeable bits alone,
-- and has no more retries than allowed
abbrev pub may_be_taken : Settings → Page → List ℕ → Bool
may_be_taken s page given =
    let head = head_length given in
    (length given == length (changeable page))
    && differ_only_in (drop head (changeable page)) (drop head (page_bytes page s)) (drop head given)
    && retries_allowed page given

-- the settings after a page that is there in full, given which known page it is, if one
abbrev pub known_page_taken : Settings → List ℕ → Option Page → Result Settings Sense
known_page_taken s given None = Err invalid_field_in_list
known_page_taken s given (Some page) =
    if may_be_taken s page given then Ok (with_page page s given) else Err invalid_field_in_list

-- the settings after a page that is there in full
abbrev pub page_taken : Settings → List ℕ → Result Settings Sense
page_taken s given = known_page_taken s given (page_named (slice_index given 0) (slice_index given 1))

-- the settings after the page at the front of a list
abbrev pub front_taken : Settings → List ℕ → Result Settings Sense
front_taken s list = and_then (front_page list) (page_taken s)

-- the settings after all pages of a list, of which the first `passed` bytes are the rest of a page that was taken
abbrev pub pages_taken : ℕ → Settings → List ℕ → Result Settings Sense
pages_taken passed s [] = Ok s
pages_taken zero s (b ∷ list) = and_then (front_taken s (b ∷ list)) (λ t. pages_taken (page_length (b ∷ list) - 1) t list)
pages_taken (suc passed) s (b ∷ list) = pages_taken passed s list

-- the settings after a MODE SELECT with this parameter list, or its refusal
abbrev pub selected : Settings → ℕ → Bool → List ℕ → Result Settings Sense
selected s capacity ten list =
    if length list == 0 then Ok s else and_then (pages_part capacity ten list) (pages_taken 0 s)
