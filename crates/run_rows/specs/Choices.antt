-- Small modules, with their texts and their trees, that show what CASE, ASSERT and conditions do, and their traps, and in which order parts are evaluated.
use Rattle.std.specs.Prelude.{codes, [], ◌∷◌, None, Some, pos}
use Rattle.oberon_tree.specs.declared.expression.Relator.TheVariants as relators
use Rattle.oberon_tree.specs.declared.expression.AddOperator.TheVariants as adds
use Rattle.oberon_tree.specs.declared.expression.MulOperator.TheVariants as muls
use Rattle.oberon_tree.specs.declared.statement.LabelValue.TheVariants as labels
use Rattle.oberon_tree.specs.Trees.{no_relation, relation_of, expr_of, simple_of, no_addends, more_addends, term_of, no_multipliers, more_multipliers, true_factor, false_factor, set_factor, designator_factor, group_factor, set_of, some_elements, no_more_elements, element_of, no_upper, designator_of, no_selectors, more_selectors, field_selector, index_selector, call_selector, no_arguments, some_arguments, exprs_of, no_more_exprs, more_exprs, named_type, array_type, no_step, statements_of, no_more_statements, more_statements, empty_statement, assign_statement, call_statement, case_statement, for_statement, case_of, labelled_arm, no_more_arms, more_arms, for_of}
use Rattle.run_rules.specs.Linked.{Source}
use Rattle.run_rows.specs.Parts.{at, ident, own, named, just, plain, alone, number, string, name}

abbrev pub labels_and_ranges : Source
labels_and_ranges = record {
  stem = codes "A";
  text = codes "MODULE A; IMPORT Out; VAR i: INTEGER; BEGIN FOR i := 0 TO 5 DO CASE i OF 1..3: Out.Char(\"a\") | 0, 4: Out.Char(\"b\") | 5: Out.Char(\"c\") END END; Out.String(\"\") END A.";
  tree =
      record {
        word = (at 0 6);
        name = (ident 7 (codes "A"));
        semicolon = (at 8 9);
        imports = (Some (record {
          word = (at 10 16);
          first = (record {
            name
                = (ident 17 (codes "Out"));
            alias = None;
          });
          rest = [];
          semicolon = (at 20 21);
        }));
        declarations = (record {
          constants = None;
          types = None;
          variables = (Some (record {
            word = (at 22 25);
            items = ((record {
              names = (record { first = (own (ident 26 (codes "i"))); rest = [] });
              colon =
                  (at 27 28);
              of_type = (named_type (named (ident 29 (codes "INTEGER"))));
              semicolon = (at 36 37);
            }) ∷ []);
          }));
        });
        procedures = [];
        body = (Some
            (record {
              word = (at 38 43);
              statements = (statements_of (for_statement (for_of (at 44 47) (ident 48 (codes "i")) (at 50 52) (alone (number 53 54
                  (pos 0))) (at 55 57) (alone (number 58 59 (pos 5))) no_step (at 60 62) (statements_of (case_statement (case_of (at 63 67) (alone (name 68 (codes
                  "i"))) (at 70 72) (labelled_arm (record {
                    first = (record {
                      first = (labels.Integer (record { span = (at 73 74); value = (pos 1) }));
                      upper =
                          (Some (record { dots = (at 74 76); last = (labels.Integer (record { span = (at 76 77); value = (pos 3) })) }));
                    });
                    rest = [];
                  }) (at 77 78)
                  (statements_of (call_statement (designator_of (ident 79 (codes "Out")) (more_selectors (field_selector (record {
                    period = (at 82 83);
                    name =
                        (ident 83 (codes "Char"));
                  })) (more_selectors (call_selector (at 87 88) (some_arguments (exprs_of (alone (string 88 91 (codes "a")))
                  no_more_exprs)) (at 91 92)) no_selectors)))) no_more_statements)) (more_arms (at 93 94) (labelled_arm (record {
                    first = (record {
                      first =
                          (labels.Integer (record { span = (at 95 96); value = (pos 0) }));
                      upper = None;
                    });
                    rest = ((record {
                      comma = (at 96 97);
                      label = (record {
                        first
                            = (labels.Integer (record { span = (at 98 99); value = (pos 4) }));
                        upper = None;
                      });
                    }) ∷ []);
                  }) (at 99 100) (statements_of (call_statement
                  (designator_of (ident 101 (codes "Out")) (more_selectors (field_selector (record { period = (at 104 105); name = (ident 105 (codes "Char")) }))
                  (more_selectors (call_selector (at 109 110) (some_arguments (exprs_of (alone (string 110 113 (codes "b"))) no_more_exprs)) (at 113 114))
                  no_selectors)))) no_more_statements)) (more_arms (at 115 116) (labelled_arm (record {
                    first = (record {
                      first = (labels.Integer (record {
                        span =
                            (at 117 118);
                        value = (pos 5);
                      }));
                      upper = None;
                    });
                    rest = [];
                  }) (at 118 119) (statements_of (call_statement (designator_of (ident 120 (codes
                  "Out")) (more_selectors (field_selector (record { period = (at 123 124); name = (ident 124 (codes "Char")) })) (more_selectors (call_selector (at
                  128 129) (some_arguments (exprs_of (alone (string 129 132 (codes "c"))) no_more_exprs)) (at 132 133)) no_selectors)))) no_more_statements))
                  no_more_arms)) (at 134 137))) no_more_statements) (at 138 141))) (more_statements (at 141 142) (call_statement (designator_of (ident 143 (codes
                  "Out")) (more_selectors (field_selector (record { period = (at 146 147); name = (ident 147 (codes "String")) })) (more_selectors (call_selector
                  (at 153 154) (some_arguments (exprs_of (alone (string 154 156 [])) no_more_exprs)) (at 156 157)) no_selectors)))) no_more_statements));
            }));
        end =
            (at 158 161);
        end_name = (ident 162 (codes "A"));
        period = (at 163 164);
      };
}

abbrev pub labels_of_chars : Source
labels_of_chars = record {
  stem = codes "A";
  text = codes "MODULE A; IMPORT Out; VAR c: CHAR; BEGIN c := \"b\"; CASE c OF \"a\": Out.Char(\"1\") | \"b\"..\"d\": Out.Char(\"2\") END; Out.Char(c); Out.Ln; Out.String(\"\") END A.";
  tree =
      record {
        word = (at 0 6);
        name = (ident 7 (codes "A"));
        semicolon = (at 8 9);
        imports = (Some (record {
          word = (at 10 16);
          first = (record {
            name
                = (ident 17 (codes "Out"));
            alias = None;
          });
          rest = [];
          semicolon = (at 20 21);
        }));
        declarations = (record {
          constants = None;
          types = None;
          variables = (Some (record {
            word = (at 22 25);
            items = ((record {
              names = (record { first = (own (ident 26 (codes "c"))); rest = [] });
              colon =
                  (at 27 28);
              of_type = (named_type (named (ident 29 (codes "CHAR"))));
              semicolon = (at 33 34);
            }) ∷ []);
          }));
        });
        procedures = [];
        body = (Some
            (record {
              word = (at 35 40);
              statements = (statements_of (assign_statement (designator_of (ident 41 (codes "c")) no_selectors) (at 43 45) (alone
                  (string 46 49 (codes "b")))) (more_statements (at 49 50) (case_statement (case_of (at 51 55) (alone (name 56 (codes "c"))) (at 58 60)
                  (labelled_arm (record { first = (record { first = (labels.Str (record { span = (at 61 64); value = (codes "a") })); upper = None }); rest = [] })
                  (at 64 65) (statements_of (call_statement (designator_of (ident 66 (codes "Out")) (more_selectors (field_selector (record {
                    period = (at 69 70);
                    name = (ident 70 (codes "Char"));
                  })) (more_selectors (call_selector (at 74 75) (some_arguments (exprs_of (alone (string 75 78 (codes "1")))
                  no_more_exprs)) (at 78 79)) no_selectors)))) no_more_statements)) (more_arms (at 80 81) (labelled_arm (record {
                    first = (record {
                      first =
                          (labels.Str (record { span = (at 82 85); value = (codes "b") }));
                      upper = (Some (record {
                        dots = (at 85 87);
                        last = (labels.Str (record {
                          span =
                              (at 87 90);
                          value = (codes "d");
                        }));
                      }));
                    });
                    rest = [];
                  }) (at 90 91) (statements_of (call_statement (designator_of (ident 92 (codes "Out"))
                  (more_selectors (field_selector (record { period = (at 95 96); name = (ident 96 (codes "Char")) })) (more_selectors (call_selector (at 100 101)
                  (some_arguments (exprs_of (alone (string 101 104 (codes "2"))) no_more_exprs)) (at 104 105)) no_selectors)))) no_more_statements)) no_more_arms)
                  (at 106 109))) (more_statements (at 109 110) (call_statement (designator_of (ident 111 (codes "Out")) (more_selectors (field_selector (record {
                    period = (at 114 115);
                    name = (ident 115 (codes "Char"));
                  })) (more_selectors (call_selector (at 119 120) (some_arguments (exprs_of (alone (name
                  120 (codes "c"))) no_more_exprs)) (at 121 122)) no_selectors)))) (more_statements (at 122 123) (call_statement (designator_of (ident 124 (codes
                  "Out")) (more_selectors (field_selector (record { period = (at 127 128); name = (ident 128 (codes "Ln")) })) no_selectors))) (more_statements (at
                  130 131) (call_statement (designator_of (ident 132 (codes "Out")) (more_selectors (field_selector (record {
                    period = (at 135 136);
                    name = (ident
                        136 (codes "String"));
                  })) (more_selectors (call_selector (at 142 143) (some_arguments (exprs_of (alone (string 143 145 [])) no_more_exprs)) (at
                  145 146)) no_selectors)))) no_more_statements)))));
            }));
        end = (at 147 150);
        end_name = (ident 151 (codes "A"));
        period = (at 152 153);
      };
}

abbrev pub no_label_fits : Source
no_label_fits = record {
  stem = codes "A";
  text = codes "MODULE A; IMPORT Out; VAR i: INTEGER; BEGIN CASE i OF 1: | 2..3: END; Out.String(\"\") END A.";
  tree =
      record {
        word = (at 0 6);
        name = (ident 7 (codes "A"));
        semicolon = (at 8 9);
        imports = (Some (record {
          word = (at 10 16);
          first = (record {
            name
                = (ident 17 (codes "Out"));
            alias = None;
          });
          rest = [];
          semicolon = (at 20 21);
        }));
        declarations = (record {
          constants = None;
          types = None;
          variables = (Some (record {
            word = (at 22 25);
            items = ((record {
              names = (record { first = (own (ident 26 (codes "i"))); rest = [] });
              colon =
                  (at 27 28);
              of_type = (named_type (named (ident 29 (codes "INTEGER"))));
              semicolon = (at 36 37);
            }) ∷ []);
          }));
        });
        procedures = [];
        body = (Some
            (record {
              word = (at 38 43);
              statements = (statements_of (case_statement (case_of (at 44 48) (alone (name 49 (codes "i"))) (at 51 53)
                  (labelled_arm (record { first = (record { first = (labels.Integer (record { span = (at 54 55); value = (pos 1) })); upper = None }); rest = [] })
                  (at 55 56) (statements_of empty_statement no_more_statements)) (more_arms (at 57 58) (labelled_arm (record {
                    first = (record {
                      first =
                          (labels.Integer (record { span = (at 59 60); value = (pos 2) }));
                      upper = (Some (record {
                        dots = (at 60 62);
                        last = (labels.Integer (record {
                          span = (at 62 63);
                          value = (pos 3);
                        }));
                      }));
                    });
                    rest = [];
                  }) (at 63 64) (statements_of empty_statement no_more_statements)) no_more_arms) (at 65
                  68))) (more_statements (at 68 69) (call_statement (designator_of (ident 70 (codes "Out")) (more_selectors (field_selector (record {
                    period = (at
                        73 74);
                    name = (ident 74 (codes "String"));
                  })) (more_selectors (call_selector (at 80 81) (some_arguments (exprs_of (alone (string 81 83 []))
                  no_more_exprs)) (at 83 84)) no_selectors)))) no_more_statements));
            }));
        end = (at 85 88);
        end_name = (ident 89 (codes "A"));
        period = (at 90 91);
      };
}

abbrev pub conditions_stop_early : Source
conditions_stop_early = record {
  stem = codes "A";
  text = codes "MODULE A; IMPORT Out; VAR b: BOOLEAN; BEGIN b := 40 IN {1}; Out.Int(ORD(b), 0); b := FALSE & (1 DIV 0 = 0); b := TRUE OR (1 DIV 0 = 0); Out.Int(ORD(b), 0); Out.String(\"\") END A.";
  tree =
      record {
        word = (at 0 6);
        name = (ident 7 (codes "A"));
        semicolon = (at 8 9);
        imports = (Some (record {
          word = (at 10 16);
          first = (record {
            name
                = (ident 17 (codes "Out"));
            alias = None;
          });
          rest = [];
          semicolon = (at 20 21);
        }));
        declarations = (record {
          constants = None;
          types = None;
          variables = (Some (record {
            word = (at 22 25);
            items = ((record {
              names = (record { first = (own (ident 26 (codes "b"))); rest = [] });
              colon =
                  (at 27 28);
              of_type = (named_type (named (ident 29 (codes "BOOLEAN"))));
              semicolon = (at 36 37);
            }) ∷ []);
          }));
        });
        procedures = [];
        body = (Some
            (record {
              word = (at 38 43);
              statements = (statements_of (assign_statement (designator_of (ident 44 (codes "b")) no_selectors) (at 46 48)
                  (expr_of (plain (number 49 51 (pos 40))) (relation_of relators.In (at 52 54) (plain (set_factor (set_of (at 55 56) (some_elements (element_of
                  (alone (number 56 57 (pos 1))) no_upper) no_more_elements) (at 57 58))))))) (more_statements (at 58 59) (call_statement (designator_of (ident 60
                  (codes "Out")) (more_selectors (field_selector (record { period = (at 63 64); name = (ident 64 (codes "Int")) })) (more_selectors (call_selector
                  (at 67 68) (some_arguments (exprs_of (alone (designator_factor (designator_of (ident 68 (codes "ORD")) (more_selectors (call_selector (at 71 72)
                  (some_arguments (exprs_of (alone (name 72 (codes "b"))) no_more_exprs)) (at 73 74)) no_selectors)))) (more_exprs (at 74 75) (alone (number 76 77
                  (pos 0))) no_more_exprs))) (at 77 78)) no_selectors)))) (more_statements (at 78 79) (assign_statement (designator_of (ident 80 (codes "b"))
                  no_selectors) (at 82 84) (expr_of (simple_of None (term_of (false_factor (at 85 90)) (more_multipliers muls.And (at 91 92) (group_factor (at 93
                  94) (expr_of (simple_of None (term_of (number 94 95 (pos 1)) (more_multipliers muls.Div (at 96 99) (number 100 101 (pos 0)) no_multipliers))
                  no_addends) (relation_of relators.Equal (at 102 103) (plain (number 104 105 (pos 0))))) (at 105 106)) no_multipliers)) no_addends) no_relation))
                  (more_statements (at 106 107) (assign_statement (designator_of (ident 108 (codes "b")) no_selectors) (at 110 112) (expr_of (simple_of None (just
                  (true_factor (at 113 117))) (more_addends adds.Or (at 118 120) (just (group_factor (at 121 122) (expr_of (simple_of None (term_of (number 122 123
                  (pos 1)) (more_multipliers muls.Div (at 124 127) (number 128 129 (pos 0)) no_multipliers)) no_addends) (relation_of relators.Equal (at 130 131)
                  (plain (number 132 133 (pos 0))))) (at 133 134))) no_addends)) no_relation)) (more_statements (at 134 135) (call_statement (designator_of (ident
                  136 (codes "Out")) (more_selectors (field_selector (record { period = (at 139 140); name = (ident 140 (codes "Int")) })) (more_selectors
                  (call_selector (at 143 144) (some_arguments (exprs_of (alone (designator_factor (designator_of (ident 144 (codes "ORD")) (more_selectors
                  (call_selector (at 147 148) (some_arguments (exprs_of (alone (name 148 (codes "b"))) no_more_exprs)) (at 149 150)) no_selectors)))) (more_exprs
                  (at 150 151) (alone (number 152 153 (pos 0))) no_more_exprs))) (at 153 154)) no_selectors)))) (more_statements (at 154 155) (call_statement
                  (designator_of (ident 156 (codes "Out")) (more_selectors (field_selector (record { period = (at 159 160); name = (ident 160 (codes "String")) }))
                  (more_selectors (call_selector (at 166 167) (some_arguments (exprs_of (alone (string 167 169 [])) no_more_exprs)) (at 169 170)) no_selectors))))
                  no_more_statements))))));
            }));
        end = (at 171 174);
        end_name = (ident 175 (codes "A"));
        period = (at 176 177);
      };
}

abbrev pub from_left_to_right : Source
from_left_to_right = record {
  stem = codes "A";
  text = codes "MODULE A; IMPORT Out; VAR i: INTEGER; a: ARRAY 3 OF INTEGER; PROCEDURE F(): INTEGER; BEGIN INC(i) RETURN i END F; BEGIN a[i] := F(); Out.Int(a[0], 0); a[F()] := i; Out.Int(a[2], 0); i := i + F(); Out.Int(i, 0); Out.String(\"\") END A.";
  tree =
      record {
        word = (at 0 6);
        name = (ident 7 (codes "A"));
        semicolon = (at 8 9);
        imports = (Some (record {
          word = (at 10 16);
          first = (record {
            name
                = (ident 17 (codes "Out"));
            alias = None;
          });
          rest = [];
          semicolon = (at 20 21);
        }));
        declarations = (record {
          constants = None;
          types = None;
          variables = (Some (record {
            word = (at 22 25);
            items = ((record {
              names = (record { first = (own (ident 26 (codes "i"))); rest = [] });
              colon =
                  (at 27 28);
              of_type = (named_type (named (ident 29 (codes "INTEGER"))));
              semicolon = (at 36 37);
            }) ∷ (record {
              names = (record {
                first = (own
                    (ident 38 (codes "a")));
                rest = [];
              });
              colon = (at 39 40);
              of_type = (array_type (at 41 46) (exprs_of (alone (number 47 48 (pos 3)))
                  no_more_exprs) (at 49 51) (named_type (named (ident 52 (codes "INTEGER")))));
              semicolon = (at 59 60);
            }) ∷ []);
          }));
        });
        procedures = ((record {
          procedure = (record {
            word = (at 61 70);
            name = (own (ident 71 (codes "F")));
            formals = (Some (record {
              opening = (at 72 73);
              sections = None;
              closing = (at 73 74);
              result_type = (Some (record { colon = (at 74 75); name = (named (ident 76 (codes "INTEGER"))) }));
            }));
            semicolon = (at 83
                84);
            locals = (record { constants = None; variables = None });
            body = (Some (record {
              word = (at 85 90);
              statements = (statements_of
                  (call_statement (designator_of (ident 91 (codes "INC")) (more_selectors (call_selector (at 94 95) (some_arguments (exprs_of (alone (name 95
                  (codes "i"))) no_more_exprs)) (at 96 97)) no_selectors))) no_more_statements);
            }));
            returns = (Some (record {
              word = (at 98 104);
              value = (alone
                  (name 105 (codes "i")));
            }));
            end = (at 107 110);
            end_name = (ident 111 (codes "F"));
          });
          semicolon = (at 112 113);
        }) ∷ []);
        body = (Some (record {
          word = (at 114 119);
          statements = (statements_of (assign_statement (designator_of (ident 120 (codes "a")) (more_selectors (index_selector (at 121
              122) (exprs_of (alone (name 122 (codes "i"))) no_more_exprs) (at 123 124)) no_selectors)) (at 125 127) (alone (designator_factor (designator_of
              (ident 128 (codes "F")) (more_selectors (call_selector (at 129 130) no_arguments (at 130 131)) no_selectors))))) (more_statements (at 131 132)
              (call_statement (designator_of (ident 133 (codes "Out")) (more_selectors (field_selector (record {
                period = (at 136 137);
                name = (ident 137
                    (codes "Int"));
              })) (more_selectors (call_selector (at 140 141) (some_arguments (exprs_of (alone (designator_factor (designator_of (ident 141
              (codes "a")) (more_selectors (index_selector (at 142 143) (exprs_of (alone (number 143 144 (pos 0))) no_more_exprs) (at 144 145))
              no_selectors)))) (more_exprs (at 145 146) (alone (number 147 148 (pos 0))) no_more_exprs))) (at 148 149)) no_selectors)))) (more_statements (at
              149 150) (assign_statement (designator_of (ident 151 (codes "a")) (more_selectors (index_selector (at 152 153) (exprs_of (alone
              (designator_factor (designator_of (ident 153 (codes "F")) (more_selectors (call_selector (at 154 155) no_arguments (at 155 156)) no_selectors))))
              no_more_exprs) (at 156 157)) no_selectors)) (at 158 160) (alone (name 161 (codes "i")))) (more_statements (at 162 163) (call_statement
              (designator_of (ident 164 (codes "Out")) (more_selectors (field_selector (record { period = (at 167 168); name = (ident 168 (codes "Int")) }))
              (more_selectors (call_selector (at 171 172) (some_arguments (exprs_of (alone (designator_factor (designator_of (ident 172 (codes "a"))
              (more_selectors (index_selector (at 173 174) (exprs_of (alone (number 174 175 (pos 2))) no_more_exprs) (at 175 176)) no_selectors)))) (more_exprs
              (at 176 177) (alone (number 178 179 (pos 0))) no_more_exprs))) (at 179 180)) no_selectors)))) (more_statements (at 180 181) (assign_statement
              (designator_of (ident 182 (codes "i")) no_selectors) (at 184 186) (expr_of (simple_of None (just (name 187 (codes "i"))) (more_addends adds.Add
              (at 189 190) (just (designator_factor (designator_of (ident 191 (codes "F")) (more_selectors (call_selector (at 192 193) no_arguments (at 193
              194)) no_selectors)))) no_addends)) no_relation)) (more_statements (at 194 195) (call_statement (designator_of (ident 196 (codes "Out"))
              (more_selectors (field_selector (record { period = (at 199 200); name = (ident 200 (codes "Int")) })) (more_selectors (call_selector (at 203 204)
              (some_arguments (exprs_of (alone (name 204 (codes "i"))) (more_exprs (at 205 206) (alone (number 207 208 (pos 0))) no_more_exprs))) (at 208 209))
              no_selectors)))) (more_statements (at 209 210) (call_statement (designator_of (ident 211 (codes "Out")) (more_selectors (field_selector (record {
                period = (at 214 215);
                name = (ident 215 (codes "String"));
              })) (more_selectors (call_selector (at 221 222) (some_arguments (exprs_of (alone
              (string 222 224 [])) no_more_exprs)) (at 224 225)) no_selectors)))) no_more_statements)))))));
        }));
        end = (at 226 229);
        end_name = (ident 230
            (codes "A"));
        period = (at 231 232);
      };
}

abbrev pub assertion_fails : Source
assertion_fails = record {
  stem = codes "A";
  text = codes "MODULE A; VAR i: INTEGER; BEGIN ASSERT(i = 0); ASSERT(i = 2) END A.";
  tree =
      record {
        word = (at 0 6);
        name = (ident 7 (codes "A"));
        semicolon = (at 8 9);
        imports = None;
        declarations = (record {
          constants = None;
          types =
              None;
          variables = (Some (record {
            word = (at 10 13);
            items = ((record {
              names = (record { first = (own (ident 14 (codes "i"))); rest = [] });
              colon = (at 15 16);
              of_type = (named_type (named (ident 17 (codes "INTEGER"))));
              semicolon = (at 24 25);
            }) ∷ []);
          }));
        });
        procedures = [];
        body =
            (Some (record {
              word = (at 26 31);
              statements = (statements_of (call_statement (designator_of (ident 32 (codes "ASSERT")) (more_selectors
                  (call_selector (at 38 39) (some_arguments (exprs_of (expr_of (plain (name 39 (codes "i"))) (relation_of relators.Equal (at 41 42) (plain (number
                  43 44 (pos 0))))) no_more_exprs)) (at 44 45)) no_selectors))) (more_statements (at 45 46) (call_statement (designator_of (ident 47 (codes
                  "ASSERT")) (more_selectors (call_selector (at 53 54) (some_arguments (exprs_of (expr_of (plain (name 54 (codes "i"))) (relation_of relators.Equal
                  (at 56 57) (plain (number 58 59 (pos 2))))) no_more_exprs)) (at 59 60)) no_selectors))) no_more_statements));
            }));
        end = (at 61 64);
        end_name =
            (ident 65 (codes "A"));
        period = (at 66 67);
      };
}

abbrev pub output_that_does_not_fit : Source
output_that_does_not_fit = record {
  stem = codes "A";
  text = codes "MODULE A; IMPORT Out; BEGIN Out.Char(\"a\"); Out.String(\"bcdef\") END A.";
  tree =
      record {
        word = (at 0 6);
        name = (ident 7 (codes "A"));
        semicolon = (at 8 9);
        imports = (Some (record {
          word = (at 10 16);
          first = (record {
            name
                = (ident 17 (codes "Out"));
            alias = None;
          });
          rest = [];
          semicolon = (at 20 21);
        }));
        declarations = (record {
          constants = None;
          types = None;
          variables = None;
        });
        procedures = [];
        body = (Some (record {
          word = (at 22 27);
          statements = (statements_of (call_statement (designator_of (ident
              28 (codes "Out")) (more_selectors (field_selector (record { period = (at 31 32); name = (ident 32 (codes "Char")) })) (more_selectors
              (call_selector (at 36 37) (some_arguments (exprs_of (alone (string 37 40 (codes "a"))) no_more_exprs)) (at 40 41)) no_selectors))))
              (more_statements (at 41 42) (call_statement (designator_of (ident 43 (codes "Out")) (more_selectors (field_selector (record {
                period = (at 46
                    47);
                name = (ident 47 (codes "String"));
              })) (more_selectors (call_selector (at 53 54) (some_arguments (exprs_of (alone (string 54 61 (codes
              "bcdef"))) no_more_exprs)) (at 61 62)) no_selectors)))) no_more_statements));
        }));
        end = (at 63 66);
        end_name = (ident 67 (codes "A"));
        period =
            (at 68 69);
      };
}
