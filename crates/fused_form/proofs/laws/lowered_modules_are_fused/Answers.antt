use Rattle.std.proofs.Common.{refl, ap}
use Rattle.sound_lowering.specs.Programs.{number_of_entry, program_by, source_limit}
use Rattle.lowered_program.specs.Residues.{residue_of}
use Rattle.fused_form.proofs.laws.lowered_modules_are_fused.Goals as goal

pub returns : goal.returns
returns c m t budget l numbered typed h =
    let r = residue_of (program_by m t h.live) h.entry.function h.nodes in
    record {
      residue = r;
      is = h.is;
      fused =
          c.lowered_parts_are_fused.ensures (program_by m t h.live) h.nodes r
          (record {
            limit = source_limit;
            found_entry = h.entry;
            faultless = record {
              numbered = numbered;
              typed = typed;
              is_entry = h.is_entry;
              entry = ap number_of_entry h.is_entry;
              qubits = refl;
              results = refl;
            };
            budget = budget;
            explored = h.explored;
            made = refl;
          });
    }
