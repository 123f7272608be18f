-- What is written has no float.
use Rattle.std.proofs.Common.{◌≡◌, ℕ, Bool, true, false, List, [], ◌∷◌, Option, Some, None, option_map, map, refl, ◌||◌, subst, sym, codes}
use Rattle.serde_json.specs.Data.{Data, boolean, string, object, Members, no_members, member}
use Rattle.serde_json.specs.View.{items_of}
use Rattle.serde_json.specs.Written.{has_float, items_have_float, members_have_float}
use Rattle.json_lines.specs.Kinds.{TextEntry, NullableEntry}
use Rattle.json_lines.specs.Written.{integer_data, texts_data, map_data, text_map_data, text_or_null_data, nullable_map_data, single_object}
use Rattle.log_actions.specs.declared.action.Format.{Format}
use Rattle.log_actions.specs.declared.action.Action.{Action}
use Rattle.log_actions.specs.declared.action.Action.TheVariants.{Protocol, Meta, Add, Remove, Txn, Info, Checkpoint, Sidecar, Ignored}
use Rattle.log_actions.specs.Written.{Fields, members_of, protocol_fields, format_fields, metadata_fields, add_fields, remove_fields, txn_fields, commit_info_fields, checkpoint_fields, sidecar_fields, action_data}
use Rattle.log_actions.proofs.Fields.{AllMembers, AllFields, IfThere, AllMembers-members_of, AllMembers-entries_data, each_there}

abbrev pub NoFloat : Data → Type 0
NoFloat d = has_float d ≡ false

neither : (a b : Bool) → a ≡ false → b ≡ false → (a || b) ≡ false
neither true b h k = h
neither false b h k = k

none_in : (ms : Members) → AllMembers NoFloat ms → members_have_float ms ≡ false
none_in no_members all = refl
none_in (member k d ms) all = neither (has_float d) (members_have_float ms) all.0 (none_in ms all.1)

texts_none : (ts : List (List ℕ)) → items_have_float (items_of (map string ts)) ≡ false
texts_none [] = refl
texts_none (t ∷ ts) = texts_none ts

map_none : (es : List TextEntry) → NoFloat (text_map_data es)
unfolding map_data
map_none es = none_in _ (AllMembers-entries_data NoFloat string no_members es (λ t. refl) tt)

text_none : (t : Option (List ℕ)) → NoFloat (text_or_null_data t)
text_none None = refl
text_none (Some t) = refl

partition_none : (vs : List NullableEntry) → NoFloat (nullable_map_data vs)
unfolding map_data
partition_none vs = none_in _ (AllMembers-entries_data NoFloat text_or_null_data no_members vs text_none tt)

fields_none : (fs : Fields) → AllFields NoFloat fs → members_have_float (members_of fs) ≡ false
fields_none fs all = none_in (members_of fs) (AllMembers-members_of NoFloat fs all)

single_none : (name : List ℕ) (fs : Fields) → AllFields NoFloat fs → NoFloat (single_object name (members_of fs))
single_none name fs all = neither (members_have_float (members_of fs)) false (fields_none fs all) refl

text_there : (o : Option (List ℕ)) → IfThere NoFloat (option_map string o)
text_there o = each_there NoFloat string o (λ t. refl)

integer_there : (o : Option ℕ) → IfThere NoFloat (option_map integer_data o)
integer_there o = each_there NoFloat integer_data o (λ n. refl)

flag_there : (o : Option Bool) → IfThere NoFloat (option_map boolean o)
flag_there o = each_there NoFloat boolean o (λ b. refl)

texts_there : (o : Option (List (List ℕ))) → IfThere NoFloat (option_map texts_data o)
texts_there o = each_there NoFloat texts_data o texts_none

map_there : (o : Option (List TextEntry)) → IfThere NoFloat (option_map text_map_data o)
map_there o = each_there NoFloat text_map_data o map_none

partition_there : (o : Option (List NullableEntry)) → IfThere NoFloat (option_map nullable_map_data o)
partition_there o = each_there NoFloat nullable_map_data o partition_none

format_none : (f : Format) → NoFloat (object (members_of (format_fields f)))
format_none f = fields_none (format_fields f) (map_there f.options, (refl, tt))

pub action_none : (a : Action) → IfThere NoFloat (action_data a)
unfolding action_data
action_none (Protocol p) = single_none (codes "protocol") (protocol_fields p) (refl, (refl, (texts_there p.reader_features, (texts_there p.writer_features, tt))))
action_none (Meta m) =
    single_none (codes "metaData") (metadata_fields m)
    (map_there m.configuration, (integer_there m.created_time, (text_there m.description, (format_none m.format, (refl, (text_there m.name, (texts_none m.partition_columns, (refl, tt))))))))
action_none (Add f) = single_none (codes "add") (add_fields f) (refl, (refl, (partition_none f.partition_values, (refl, (refl, (text_there f.stats, (map_there f.tags, tt)))))))
action_none (Remove f) =
    single_none (codes "remove") (remove_fields f)
    (refl, (refl, (flag_there f.extended_file_metadata, (partition_there f.partition_values, (refl, (integer_there f.size, (map_there f.tags, tt)))))))
action_none (Txn t) = single_none (codes "txn") (txn_fields t) (refl, (refl, tt))
action_none (Info i) =
    single_none (codes "commitInfo") (commit_info_fields i)
    (flag_there i.is_blind_append, (text_there i.isolation_level, (text_there i.operation, (integer_there i.read_version, (integer_there i.timestamp, (text_there i.txn_id, tt))))))
action_none (Checkpoint c) = single_none (codes "checkpointMetadata") (checkpoint_fields c) (map_there c.tags, (refl, tt))
action_none (Sidecar s) = single_none (codes "sidecar") (sidecar_fields s) (integer_there s.modification_time, (refl, (refl, tt)))
action_none Ignored = tt

-- the line of an action that is written, where its value has this view
pub plain_of : (a : Action) (d : Data) → Some d ≡ action_data a → has_float d ≡ false
plain_of a d is = subst (IfThere NoFloat) (sym is) (action_none a)
