-- What holds of each field holds of each member that is written.
use Rattle.std.proofs.Common.{ℕ, List, [], ◌∷◌, Option, Some, None, option_map}
use Rattle.std.specs.declared.cmp.Ordering.{Ordering}
use Rattle.std.specs.declared.cmp.Ordering.TheVariants.{Less, Equal, Greater}
use Rattle.std.specs.Ordering.{nat_cmp, match_ordering}
use Rattle.std.specs.Cmp.Lexicographic.{slice_cmp}
use Rattle.serde_json.specs.Data.{Data, Members, no_members, member, put}
use Rattle.json_lines.specs.declared.map.Entry.{Entry}
use Rattle.json_lines.specs.Written.{with_member, entries_data}
use Rattle.log_actions.specs.Written.{Fields, members_with, members_of}

abbrev pub AllMembers : (Data → Type 0) → Members → Type 0
AllMembers P no_members = Unit {0}
AllMembers P (member k d ms) = P d × AllMembers P ms

abbrev pub IfThere : (Data → Type 0) → Option Data → Type 0
IfThere P None = Unit {0}
IfThere P (Some d) = P d

abbrev pub AllFields : (Data → Type 0) → Fields → Type 0
AllFields P [] = Unit {0}
AllFields P (f ∷ fs) = IfThere P f.1 × AllFields P fs

placed : (P : Data → Type 0) (o : Ordering) (k l : List ℕ) (d e : Data) (ms later : Members) → P d → P e → AllMembers P ms → AllMembers P later
    → AllMembers P (match_ordering o (member k d (member l e ms)) (member l d ms) (member l e later))
placed P Less k l d e ms later p q all more = (p, (q, all))
placed P Equal k l d e ms later p q all more = (p, all)
placed P Greater k l d e ms later p q all more = (q, more)

pub AllMembers-put : (P : Data → Type 0) (k : List ℕ) (d : Data) (ms : Members) → P d → AllMembers P ms → AllMembers P (put k d ms)
AllMembers-put P k d no_members p all = (p, tt)
AllMembers-put P k d (member l e ms) p all = placed P (slice_cmp nat_cmp k l) k l d e ms (put k d ms) p all.0 all.1 (AllMembers-put P k d ms p all.1)

AllMembers-with_member : (P : Data → Type 0) (k : List ℕ) (o : Option Data) (ms : Members) → IfThere P o → AllMembers P ms → AllMembers P (with_member k o ms)
unfolding with_member
AllMembers-with_member P k None ms p all = all
AllMembers-with_member P k (Some d) ms p all = AllMembers-put P k d ms p all

AllMembers-members_with : (P : Data → Type 0) (ms : Members) (fs : Fields) → AllMembers P ms → AllFields P fs → AllMembers P (members_with ms fs)
AllMembers-members_with P ms [] all fields = all
AllMembers-members_with P ms (f ∷ fs) all fields = AllMembers-members_with P (with_member f.0 f.1 ms) fs (AllMembers-with_member P f.0 f.1 ms fields.0 all) fields.1

pub AllMembers-members_of : (P : Data → Type 0) (fs : Fields) → AllFields P fs → AllMembers P (members_of fs)
unfolding members_of
AllMembers-members_of P fs fields = AllMembers-members_with P no_members fs tt fields

-- what holds of each value holds of one that may be there
pub each_there : {A : Type 0} (P : Data → Type 0) (f : A → Data) (o : Option A) → ((x : A) → P (f x)) → IfThere P (option_map f o)
each_there P f None h = tt
each_there P f (Some x) h = h x

pub AllMembers-entries_data : {A : Type 0} (P : Data → Type 0) (written : A → Data) (ms : Members) (es : List (Entry A)) → ((x : A) → P (written x)) → AllMembers P ms → AllMembers P (entries_data written ms es)
AllMembers-entries_data P written ms [] each all = all
AllMembers-entries_data P written ms (e ∷ es) each all =
    AllMembers-entries_data P written (put e.name (written e.value) ms) es each (AllMembers-put P e.name (written e.value) ms (each e.value) all)
