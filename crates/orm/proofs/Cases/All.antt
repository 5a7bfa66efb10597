-- One name for all definitions of the paper, for theorems that are proved by computation: to unfold it is to unfold them all.
use mathlib.Core.List.{flat_map, flatten, zip_with}
use Rattle.counting.specs.Lists
use Rattle.counting.specs.Totals
use Rattle.counting.specs.Distinct
use Rattle.pairing.specs.Pairing
use Rattle.pairing.specs.Multiples
use Rattle.fixpoint.specs.Limits
use Rattle.orm.specs.Diagram
use Rattle.orm.specs.Supertypes
use Rattle.orm.specs.Reader
use Rattle.orm.specs.Form
use Rattle.orm.specs.Text
use Rattle.orm.specs.Outcome
use Rattle.orm.specs.Sets
use Rattle.orm.specs.Population
use Rattle.orm.specs.Populate
use Rattle.orm.specs.Constraints
use Rattle.orm.specs.Calls
use Rattle.orm.specs.Prescribe
use Rattle.orm.specs.SingleLimits
use Rattle.orm.specs.Average
use Rattle.orm.specs.LineReader
use Rattle.orm.specs.Program
use Rattle.orm.specs.MultiplesText

unfoldable pub everything : Unit {0}
unfolding
    flat_map flatten zip_with
    Lists.up_from Lists.map_from Lists.same Lists.column Lists.combination
    Totals.sum_over Totals.product_over
    Distinct.all Distinct.member Distinct.distinct Distinct.occurrences Distinct.all_differ Distinct.within
    Pairing.gcd_within Pairing.gcd Pairing.lcm Pairing.left_of Pairing.right_of Pairing.single Pairing.paired_with Pairing.paired_with_all
    Pairing.tuples
    Multiples.multiple_rows Multiples.multiples Multiples.multiple_at Multiples.has_row Multiples.listed Multiples.pairing_multiple
    Limits.value_of Limits.lowered Limits.lowered_by Limits.round Limits.upper_after Limits.first_below Limits.slack Limits.run_from Limits.run
    Limits.lowers Limits.step_at Limits.lowers_at Limits.any_lowers Limits.steps_by
    Diagram.is_root Diagram.is_independent Diagram.is_mandatory Diagram.is_grouped Diagram.plays Diagram.must_play Diagram.all_roles Diagram.all_groups Diagram.line_of_type
    Diagram.limits_roles Diagram.role_line_of Diagram.line_of_role Diagram.line_of_group Diagram.line_of_pred Diagram.lines_of_pred Diagram.line_of_count
    Diagram.lines Diagram.table Diagram.totals
    Supertypes.super_at Supertypes.first_at Supertypes.last_at Supertypes.climb Supertypes.is_root_at Supertypes.root Supertypes.first_value Supertypes.has_range
    Supertypes.has_range_at Supertypes.nearest Supertypes.last_value
    Reader.for_each Reader.at_end Reader.exactly
    Form.ranges Form.fields Form.in_range Form.in_ranges Form.most_roles Form.most_groups Form.first_of Form.count_of Form.within_super
    Form.values_in_order Form.type_tests Form.pred_tests Form.role_tests Form.named Form.group_tests Form.end_tests Form.line Form.count Form.types_after
    Form.predicate Form.predicates Form.diagram_lines Form.whole_diagram Form.reading
    Text.bytes Text.key Text.separator Text.decimal_within Text.decimal Text.values_text Text.line_text Text.render Text.is_digit Text.digits
    Text.number Text.after Text.numbers Text.text_line Text.table_line
    Outcome.outcome_of Outcome.fitted Outcome.buffer_after Outcome.written
    Sets.first_pred Sets.first_role Sets.first_group Sets.lower Sets.upper_of_type Sets.upper_of_role Sets.upper Sets.select Sets.roles_of_type Sets.roles_in_group
    Sets.placed_from Sets.placed Sets.group_set Sets.group_roles Sets.group_part Sets.role_part Sets.parts Sets.at_most Sets.only_if
    Sets.limits_of_role Sets.limits_of_group Sets.limit_of_rows Sets.limits_of_pred Sets.limits_of_type Sets.limits Sets.upper_after_rounds
    Sets.most_rounds Sets.verdict_from Sets.set_count
    Population.cells_of_type Population.cells_of_pred Population.cells Population.block Population.rows_of Population.type_block
    Population.pred_block Population.blocks Population.cutting
    Populate.taken_before Populate.part_tuple
    Populate.parts_of_row Populate.lookup Populate.index_in_row Populate.type_values Populate.member_of Populate.row Populate.rows
    Populate.population
    Constraints.played Constraints.grouped Constraints.each_type Constraints.each_pred Constraints.values_in_roles Constraints.all_played
    Constraints.all_grouped Constraints.sizes Constraints.members_of Constraints.K1 Constraints.K2 Constraints.K3 Constraints.K4
    Constraints.K5 Constraints.K6 Constraints.K7 Constraints.K8 Constraints.K9 Constraints.K10 Constraints.K11 Constraints.constraints
    Constraints.first_false Constraints.first_broken Constraints.answer
    Calls.diagram_in Calls.sizes_by Calls.sizes_of Calls.population_in Calls.read_call Calls.write_call Calls.settled_into Calls.check_call Calls.populate_call
    Calls.validate_call
    Prescribe.set_in Prescribe.raised_at Prescribe.capped_at Prescribe.prescribe_call
    Average.groups_of_placed Average.placed_groups Average.group_numbered Average.group_in Average.float_quotient Average.average_of Average.average_call
    SingleLimits.front_of SingleLimits.numbered SingleLimits.start_call SingleLimits.lower_call SingleLimits.survey_call
    LineReader.line_length LineReader.next_line LineReader.position_after
    Program.pred_text Program.report Program.reported Program.output Program.program
    MultiplesText.multiples_text MultiplesText.line_numbers
everything = tt
